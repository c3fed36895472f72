-- What crates above cite of listing.
pub use Rattle.listing.proofs.Unique.{listing_unique, listed_unique}
pub use Rattle.listing.proofs.Lengths.{listing_length}
pub use Rattle.listing.proofs.Beginning.{listing_by_beginning}
pub use Rattle.listing.proofs.Whole.{listed_within, listed_room, listed_short, listed_done, listed_front, beginning_listed}
pub use Rattle.listing.proofs.Examples.{house_listing, conflicted_house_listing, useless_listing, nested_listing}
pub use Rattle.listing.proofs.Examples.{nothing_listing}
