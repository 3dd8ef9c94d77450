-- What a listing of the directory says.
pub use Rattle.object_files.specs.Listings.{IsListed}
