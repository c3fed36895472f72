pub mod Demands
pub mod RoomPlace
pub mod Depth
pub mod Formula
pub mod Offers
pub mod Examples
pub mod ChainExample
pub mod Idle
