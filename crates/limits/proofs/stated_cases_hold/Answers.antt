-- Each case is computed from the definitions.
use Rattle.std.proofs.Common.{refl}
use Rattle.std.specs.Fmt.{digits}
use Rattle.leb128.specs.Number.{encode, read_at}
use Rattle.image.specs.Read.{number_at, value_at, roots_at, body_at, object_at, objects_at, read}
use Rattle.limits.proofs.stated_cases_hold.Goals as goal

pub returns : goal.returns
unfolding digits encode read_at number_at value_at roots_at body_at object_at objects_at read
returns c = record {
  counted_63 = (refl, refl);
  counted_318 = (refl, refl);
  counted_64 = refl;
  counted_319 = refl;
  cabling_0 = refl;
  cabling_7 = refl;
  cabling_257 = (refl, refl);
  number_300 = refl;
  number_greatest = refl;
  number_longer = refl;
  number_wide = refl;
  image_empty = refl;
  image_left_over = refl;
  image_reference = refl;
  image_not_referred = refl;
  image_last_root = refl;
  panel_and_port = refl;
}
