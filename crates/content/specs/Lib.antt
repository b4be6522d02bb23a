-- What a pattern holds, and what an image is read back to; the contracts of `reader` and `readings` cite it.
pub mod Content
pub mod ReadImage
