-- What is scanned without being kept is what the image says.
use Rattle.laws.proofs.Lists.{bytes_of}
use Rattle.readings.proofs.Fitting.{a_header}
use Rattle.readings.proofs.header.Goals as goal

pub returns : goal.returns
returns c = let image = c.args.image.now in a_header image (bytes_of image (λ i. (c.type_inv.image i).fits)) _ _ _ _ _ c.scan.ensures
