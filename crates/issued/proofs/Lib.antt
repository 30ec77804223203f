mod Clusters
mod Ledgers
