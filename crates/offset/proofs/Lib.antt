-- Laws of the new offset: of the signed division (Division), of the rounding (Rounding), where the segment between the neighbours meets the
-- stick (Meeting), that the new offset is inside (Offsets), and that mirroring what it is made from mirrors it (Mirror).
pub mod Division
pub mod Rounding
pub mod Meeting
pub mod Offsets
pub mod Mirror
