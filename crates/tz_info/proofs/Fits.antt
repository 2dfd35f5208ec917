-- Signed numbers that fit their widths, passed on from the search.
pub use Rattle.tz_search.proofs.Fits.{fits, fits_128, fits_32, fits_64, in_range}
