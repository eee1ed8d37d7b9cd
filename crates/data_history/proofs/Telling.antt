-- What answers a serial query.
use Rattle.std.proofs.Common.{◌≡◌, ◌≤◌, ℕ, Bool, true, false, List, [], ◌∷◌, ◌++◌, Option}
use Rattle.std.proofs.Common.{Some, None, Result, Ok, Err, drop, cond, refl, sym, ap, subst, ◌∙◌}
use Rattle.std.proofs.Common.{nat_eq}
use Rattle.data_slices.specs.Canonical.{HoldsData}
use Rattle.rtr_wire.specs.Sequences.{end_for}
use Rattle.data_memory.specs.Changes.{after_all}
use Rattle.data_memory.specs.Deltas.{changes_for, data_for}
use Rattle.data_slices.proofs.Answered.{leads}
use Rattle.data_history.proofs.OfVersion.{form_for, holds_for}
use Rattle.data_slices.specs.CanonicalChanges.{HoldsChanges}
use Rattle.data_slices.specs.Order.{Sends}
use Rattle.data_slices.proofs.Sent.{holds_delta}
use Rattle.data_history.specs.Snapshots.{AreAlike, Snapshot, GoesBack, snapshot_at}
use Rattle.data_history.specs.Parts.{part_rest}
use Rattle.data_history.specs.PrivateJoins.{Joins, grown}
use Rattle.data_history.specs.Since.{WritesChangesSince}
use Rattle.data_history.specs.declared.since.SinceFault.{SinceFault}
use Rattle.data_history.specs.declared.since.SinceFault.TheVariants.{Unknown, UnitVersion}
use Rattle.data_history.specs.declared.since.SinceFault.TheVariants.{Malformed}
use Rattle.data_history.specs.declared.since.SinceFault.TheVariants.{NoRoom}
use Rattle.data_history.proofs.Steps.{with_more}

-- ---- all snapshots are of one version and session

abbrev some : Snapshot → Option Snapshot
some y = Some y

same_snapshot : (x y : Snapshot) → some x ≡ some y → x ≡ y
same_snapshot x y h = cc

pub none_of : (y : Snapshot) → None ≡ some y → ⊥
none_of y h = absurd cc

pub found : (P : Type 0) (b : Bool) (x y : Snapshot) (o : Option Snapshot) →
    cond b (Some x) o ≡ Some y → (x ≡ y → P) → (o ≡ Some y → P) → P
found P true x y o e this that = this (same_snapshot x y e)
found P false x y o e this that = that e

itself : (x y : Snapshot) → x ≡ y → AreAlike x y
itself x y e = record {
  version = sym (ap (λ (z : Snapshot). z.end.version) e);
  session = sym (ap (λ (z : Snapshot). z.end.session) e);
}

pub alike : (n : ℕ) (b : List ℕ) (x y : Snapshot) (ys : List Snapshot) → GoesBack b x ys →
    snapshot_at n x ys ≡ Some y → AreAlike x y
alike n b x y [] g e =
    found (AreAlike x y) (nat_eq x.end.serial n) x y None e (itself x y)
    (λ e. absurd (none_of y e))
alike n b x y (z ∷ ys) g e =
    found (AreAlike x y) (nat_eq x.end.serial n) x y (snapshot_at n z ys) e (itself x y)
    (λ e. let a = alike n (part_rest b) z y ys g.2 e in record {
      version = a.version ∙ sym g.1.version;
      session = a.session ∙ sym g.1.session;
    })

-- ---- data that were copied

pub copied : (b copy r : List ℕ) (x : Snapshot) → HoldsData b x.payloads x.end →
    copy ≡ b ++ [] ++ r → HoldsData copy x.payloads x.end
copied b copy r x h e =
    subst (λ l. HoldsData l x.payloads x.end) (sym e)
    (with_more (b ++ []) r x (with_more b [] x h))

-- ---- the answer

-- what is said of the wanted snapshot
pub told : (v : ℕ) (o : Option Snapshot) (x y : Snapshot) (r : Result ℕ SinceFault)
    (before after : List ℕ) → o ≡ Some y → WritesChangesSince v r (Some y) x before after →
    WritesChangesSince v r o x before after
told v o x y r before after is w =
    subst (λ p. WritesChangesSince v r p x before after) (sym is) w

pub untold : (v w : ℕ) (f : SinceFault) (o : Option Snapshot) (x : Snapshot)
    (after before : List ℕ) → Joins (Err f) o x after →
    WritesChangesSince v (Err (grown f w)) o x before before
untold v w Unknown o x after before j = (j, refl)
untold v w UnitVersion o x after before j = absurd j
untold v w Malformed o x after before j = absurd j
untold v w (NoRoom r m) o x after before j = tt

-- what was told makes the changes from the one snapshot to the other
pub as_sent : (v : ℕ) (old new changed unwritten : List ℕ) (n : ℕ) (x y : Snapshot) → v ≤ 2 →
    HoldsData old (data_for v y.payloads) (end_for v y.end) →
    HoldsData new x.payloads x.end → WritesChangesSince v (Ok n) (Some y) x unwritten changed →
    Sends changed (changes_for v y.payloads x.payloads) (end_for v x.end)
as_sent v old new changed unwritten n x y le h j told =
    let cs = changes_for v y.payloads x.payloads in
    let held : HoldsChanges changed cs (end_for v x.end) =
    subst (λ l. HoldsChanges l cs (end_for v x.end)) (sym told.2)
    (holds_delta old (form_for v x.payloads x.end) (data_for v y.payloads)
    (data_for v x.payloads) (end_for v y.end) (end_for v x.end) h
    (holds_for v new x.payloads x.end le j) refl (drop n unwritten)) in
    record { bytes = held.bytes; accepts = held.accepts }

pub leads_on : (v : ℕ) (old new : List ℕ) (x y : Snapshot) → v ≤ 2 →
    HoldsData old (data_for v y.payloads) (end_for v y.end) → HoldsData new x.payloads x.end →
    after_all (changes_for v y.payloads x.payloads) (Ok (data_for v y.payloads)) ≡
    Ok (data_for v x.payloads)
leads_on v old new x y le h j =
    leads old (form_for v x.payloads x.end) (data_for v y.payloads) (data_for v x.payloads)
    (end_for v y.end) (end_for v x.end) h (holds_for v new x.payloads x.end le j)
