-- What the crate's contracts cite, the new offset of one vertex, and mirror images, of which its mirror law speaks.
pub mod Offset
pub mod Mirror
