pub mod ListingLaws
pub mod PickedLaws
pub mod FirstLaws
