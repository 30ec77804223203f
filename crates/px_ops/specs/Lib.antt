pub mod BookingTexts
pub mod Fields
pub mod JobTexts
pub mod RefusalTexts
pub mod Texts
pub mod VoteTexts
