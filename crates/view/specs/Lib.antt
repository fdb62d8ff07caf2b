-- What the promises of the layer view say.
pub mod View
