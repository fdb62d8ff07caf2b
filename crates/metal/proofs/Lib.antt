-- Theorems on the areas of a held layer. Fractions: the drawn edges of a contour and a polygon with a vertex on every stick have one area. Signs: the
-- area of one contour. Totals: the areas of all. Theorems: what is said in specs/Metal.antt.
pub mod Fractions
pub mod Signs
pub mod Totals
pub mod Theorems
