-- The entries of SLURM's four arrays (RFC 8416 sections 3.3 and 3.4).
use Rattle.std.specs.Prelude.{List, [], ◌∷◌}
use Rattle.rtr_payload.specs.declared.payload.Payload.{Payload}
use Rattle.data_slurm.specs.declared.entry.Entry.{Entry}
use Rattle.data_slurm.specs.declared.entry.Entry.TheVariants.{PrefixFilter, KeyFilter, Assertion}

abbrev pub with_assertion : Entry → List Payload → List Payload
with_assertion (Assertion p) later = p ∷ later
with_assertion (PrefixFilter f) later = later
with_assertion (KeyFilter f) later = later

-- the payloads that are added, whatever the filters remove (section 3.4)
abbrev pub assertions_of : List Entry → List Payload
assertions_of [] = []
assertions_of (e ∷ es) = with_assertion e (assertions_of es)
