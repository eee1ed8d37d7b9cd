-- The door keeps its limits, whoever comes and leaves.
use Rattle.std.proofs.Common.{◌≡◌, ℕ, Bool, true, false, ◌+◌, ◌<◌, ◌≤◌, ◌&&◌}
use Rattle.std.proofs.Common.{List, [], ◌∷◌, ◌++◌, length, nat_lt, if◌then◌else◌, refl, arith}
use Rattle.std.proofs.lemmas.Bool.Decides.{nat_tests}
use Rattle.session_server.specs.declared.door.Door.{Door}
use Rattle.session_server.specs.declared.door.Entry.{Entry}
use Rattle.session_server.specs.declared.door.Entry.TheVariants as entries
use Rattle.session_server.specs.declared.settings.ServerSettings.{ServerSettings}
use Rattle.session_server.specs.Doors.{IsHeld, KeepsLimits, come_in, entered, has_inside}
use Rattle.session_server.specs.Doors.{count_refused, count_served, once_left, refused_one}
use Rattle.session_server.specs.Doors.{served_one}
use Rattle.session_server.specs.Doors.IsHeld.{is_new, enters, leaves}

served_without :
    (before after : List Entry) (e : Entry)
    → count_served (before ++ e ∷ after) ≡ served_one e + count_served (before ++ after)
served_without [] after e = refl
served_without (x ∷ before) after e = omega (arith, served_without before after e)

refused_without :
    (before after : List Entry) (e : Entry)
    → count_refused (before ++ e ∷ after) ≡ refused_one e + count_refused (before ++ after)
refused_without [] after e = refl
refused_without (x ∷ before) after e = omega (arith, refused_without before after e)

length_without :
    (before after : List Entry) (e : Entry)
    → length (before ++ e ∷ after) ≡ 1 + length (before ++ after)
length_without [] after e = omega arith
length_without (x ∷ before) after e = omega (arith, length_without before after e)

at_most_one : (e : Entry) → served_one e + refused_one e ≤ 1
at_most_one entries.Serve = omega arith
at_most_one entries.Refuse = omega arith
at_most_one entries.Wait = omega arith

at_most_all : (inside : List Entry) → count_served inside + count_refused inside ≤ length inside
at_most_all [] = omega arith
at_most_all (e ∷ inside) = omega (arith, at_most_one e, at_most_all inside)

-- ---- one comes

comes : (s : ServerSettings) (d : Door) (inside : List Entry) (b c : Bool)
    → (b ≡ true → d.served < d.most_connections) → (c ≡ true → d.refused < d.most_refused)
    → KeepsLimits s d inside
    → KeepsLimits s
    (entered d (if b then entries.Serve else if c then entries.Refuse else entries.Wait))
    (come_in (if b then entries.Serve else if c then entries.Refuse else entries.Wait) inside)
comes s d inside true c p q k = record {
  served = omega (arith, k);
  refused = omega (arith, k);
  total = omega (arith, k);
  most_served = omega (arith, k, p refl);
  most_refused = k.most_refused;
  limit_served = k.limit_served;
  limit_refused = k.limit_refused;
}
comes s d inside false true p q k = record {
  served = omega (arith, k);
  refused = omega (arith, k);
  total = omega (arith, k);
  most_served = k.most_served;
  most_refused = omega (arith, k, q refl);
  limit_served = k.limit_served;
  limit_refused = k.limit_refused;
}
comes s d inside false false p q k = k

below : (spare : Bool) (a b : ℕ) → (spare && nat_lt a b) ≡ true → a < b
below true a b p = grind (arith, nat_tests)
below false a b p = cc

-- ---- one leaves

leaves_one :
    (s : ServerSettings) (d : Door) (before after : List Entry) (e : Entry)
    → KeepsLimits s d (before ++ e ∷ after) → KeepsLimits s (once_left d e) (before ++ after)
leaves_one s d before after entries.Serve k = record {
  served = omega (arith, k.served, served_without before after entries.Serve);
  refused = omega (arith, k.refused, refused_without before after entries.Serve);
  total = omega (
    arith,
    k.served,
    k.total,
    served_without before after entries.Serve,
    length_without before after entries.Serve,
  );
  most_served = omega (arith, k.most_served);
  most_refused = k.most_refused;
  limit_served = k.limit_served;
  limit_refused = k.limit_refused;
}
leaves_one s d before after entries.Refuse k = record {
  served = omega (arith, k.served, served_without before after entries.Refuse);
  refused = omega (arith, k.refused, refused_without before after entries.Refuse);
  total = omega (
    arith,
    k.refused,
    k.total,
    refused_without before after entries.Refuse,
    length_without before after entries.Refuse,
  );
  most_served = k.most_served;
  most_refused = omega (arith, k.most_refused);
  limit_served = k.limit_served;
  limit_refused = k.limit_refused;
}
leaves_one s d before after entries.Wait k = absurd (omega (
  arith,
  k.served,
  k.refused,
  k.total,
  served_without before after entries.Wait,
  refused_without before after entries.Wait,
  length_without before after entries.Wait,
  at_most_all (before ++ after),
))

pub keeps_limits :
    (s : ServerSettings) (d : Door) (inside : List Entry) → IsHeld s d inside
    → KeepsLimits s d inside
keeps_limits s d inside is_new = record {
  served = refl;
  refused = refl;
  total = omega arith;
  most_served = omega arith;
  most_refused = omega arith;
  limit_served = refl;
  limit_refused = refl;
}
keeps_limits s _ _ (enters d inside spare held) = comes s d inside
    (spare && nat_lt d.served d.most_connections) (nat_lt d.refused d.most_refused)
    (below spare d.served d.most_connections) (below true d.refused d.most_refused)
    (keeps_limits s d inside held)
keeps_limits s _ _ (leaves d before after e held) =
    leaves_one s d before after e (keeps_limits s d (before ++ e ∷ after) held)

some : (n : ℕ) → 0 < n → nat_lt 0 n ≡ true
some n p = grind (arith, nat_tests)

counted_in :
    (s : ServerSettings) (d : Door) (before after : List Entry) (e : Entry)
    → KeepsLimits s d (before ++ e ∷ after) → has_inside d e ≡ true
counted_in s d before after entries.Serve k =
    some d.served (omega (arith, k.served, served_without before after entries.Serve))
counted_in s d before after entries.Refuse k =
    some d.refused (omega (arith, k.refused, refused_without before after entries.Refuse))
counted_in s d before after entries.Wait k = absurd (omega (
  arith,
  k.served,
  k.refused,
  k.total,
  served_without before after entries.Wait,
  refused_without before after entries.Wait,
  length_without before after entries.Wait,
  at_most_all (before ++ after),
))

pub counted :
    (s : ServerSettings) (d : Door) (before after : List Entry) (e : Entry)
    → IsHeld s d (before ++ e ∷ after) → has_inside d e ≡ true
counted s d before after e held =
    counted_in s d before after e (keeps_limits s d (before ++ e ∷ after) held)
