-- What the views of places stand for.
use Rattle.manifest_file.specs.declared.manifest.Place.{Place}
use Rattle.manifest_file.specs.declared.manifest.Place.TheVariants as places
use Rattle.held_manifest.specs.declared.places.PlaceView.{PlaceView}
use Rattle.held_manifest.specs.declared.places.PlaceView.TheVariants.{Inline, Object}

abbrev pub place_seen : PlaceView → Place
place_seen (Inline bytes) = places.Inline bytes.now
place_seen (Object id offset size) = places.Object id offset size
