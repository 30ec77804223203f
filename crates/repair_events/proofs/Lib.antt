pub mod FenceBegin
pub mod FenceAnswer
pub mod Missed
pub mod Settle
pub mod Accept
