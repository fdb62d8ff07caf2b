-- What is said of a polygon with a vertex on every stick of a contour.
pub mod Polygon
