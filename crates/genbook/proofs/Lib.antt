mod Admissions
mod Creations
mod Found
mod IndexLemmas
mod Places
mod Searching
mod Storages
