-- Lines that are printed one after the other.
use Rattle.std.proofs.Common.{◌++◌, List, ℕ, Option, Result, Ok, Err, OnOk}
use Rattle.std.specs.Io.KnownBytes.{Appends}
use Rattle.std.proofs.KnownBytes.{Appends-trans}

pub both_told : {T E : Type 0} (r : Result T E) (a b c : Option (List ℕ)) (x y : List ℕ) →
    Appends a b x → OnOk r (Appends b c y) → OnOk r (Appends a c (x ++ y))
both_told (Ok t) a b c x y first second = Appends-trans a b c x y first second
both_told (Err e) a b c x y first second = tt
