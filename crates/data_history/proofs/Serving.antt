-- How the calls on the two stores go on in the life of a cache.
use Rattle.std.proofs.Common.{◌≡◌, ◌≤◌, ◌+◌, ◌*◌, ℕ, Bool, true, false, not, List, [], ◌∷◌, Option}
use Rattle.std.proofs.Common.{Some, None, refl, sym, ap, subst, ◌∙◌, take, arith}
use Rattle.std.specs.Prelude.{Result, Ok, Err, IfErr, IfOk, IsOk}
use Rattle.rtr_units.specs.AnyEnd.{end_meaning}
use Rattle.rtr_units.specs.End.{EndMeaning}
use Rattle.rtr_units.specs.declared.end.EndOfData.{EndOfData}
use Rattle.rtr_payload.specs.Payloads.{Payload}
use Rattle.data_slices.proofs.OneData.{one_data}
use Rattle.data_slices.specs.Canonical.{HoldsData}
use Rattle.data_history.specs.Checks.{ChecksHistory, IsShortForCheck}
use Rattle.data_history.specs.Life.{IsLife, IsUnsavedLife, MayTake}
use Rattle.data_history.specs.Life.{saved, served_first, served_next, took, took_first}
use Rattle.data_history.specs.Next.{Advances, IsShortForNewer, StartsHistory}
use Rattle.data_history.specs.Parts.{HasPart, part_rest}
use Rattle.data_history.specs.PrivateNewer.{ComesLate, IsFlawOfNew, taken_fault}
use Rattle.data_history.specs.Snapshots.{Snapshot}
use Rattle.data_history.specs.Store.{BeginsStore, HoldsStore, IsAmong, WantsOutput, WritesStore}
use Rattle.data_history.specs.Store.{left_sessions}
use Rattle.data_history.specs.Stores.{ChecksNewFirst, ChecksStore, IsShortForTaking, MayBeOf}
use Rattle.data_history.specs.Stores.{TakesAfter, TakesData}
use Rattle.data_history.specs.Stores.{TakesFirst, TakesLater, after_call, after_saving}
use Rattle.data_history.specs.Stores.{after_taking_in, front_of, held_of, other_of, served_store}
use Rattle.data_history.specs.Stores.{taken_store}
use Rattle.data_history.specs.declared.check.CheckFault.{CheckFault}
use Rattle.data_history.specs.declared.check.CheckFault.TheVariants as faults
use Rattle.data_history.specs.declared.next.Refused.{Refused}
use Rattle.data_history.specs.declared.next.Refused.TheVariants as refusals
use Rattle.data_history.specs.declared.newer.Untaken.{Untaken}
use Rattle.data_history.specs.declared.newer.Untaken.TheVariants as untaken
use Rattle.data_history.specs.declared.room.Room.TheVariants as rooms
use Rattle.data_history.specs.declared.store.TakeFault.{TakeFault}
use Rattle.data_history.specs.declared.store.TakeFault.TheVariants as untakes
use Rattle.data_history.specs.declared.stores.Stores.{Stores}
use Rattle.data_history.proofs.Advancing.{checks_first}
use Rattle.data_history.proofs.Living.{lives, lives_unsaved}

-- ---- sessions

-- a session that was read off the end of data is theirs
pub session_is : (b : List ℕ) (session : ℕ) (end : EndOfData) (z : Snapshot) →
    session ≡ (end_meaning end).session →
    ((d : List Payload) × HoldsData b d (end_meaning end)) → HoldsData b z.payloads z.end →
    session ≡ z.end.session
session_is b session end z is p h =
    is ∙ ap (λ (e : EndMeaning). e.session)
    (one_data b p.0 z.payloads (end_meaning end) z.end p.1 h).1

-- ---- refusals

-- why newer data were refused, whatever the output was
pub refused : (since most : ℕ) (r : Refused) (z x : Snapshot) (ys : List Snapshot)
    (before after : List ℕ) → Advances since most (Err r) z x ys before after →
    Advances since most (Err r) z x ys [] []
refused since most (refusals.Flaw f) z x ys before after h = h
refused since most (refusals.UnitVersion v) z x ys before after h = (h.0, h.1, h.2, refl)
refused since most refusals.Same z x ys before after h = (h.0, refl)
refused since most refusals.Times z x ys before after h = (h.0, refl)
refused since most refusals.Serial z x ys before after h = (h.0, h.1, h.2, refl)
refused since most refusals.Malformed z x ys before after h = h
refused since most (refusals.NoRoom room wanted) z x ys before after h = h

pub refused_first : (r : Refused) (z : Snapshot) (before after : List ℕ) →
    StartsHistory (Err r) z before after → StartsHistory (Err r) z [] []
refused_first (refusals.Flaw f) z before after h = h
refused_first (refusals.UnitVersion v) z before after h = h
refused_first refusals.Same z before after h = h
refused_first refusals.Times z before after h = h
refused_first refusals.Serial z before after h = h
refused_first refusals.Malformed z before after h = h
refused_first (refusals.NoRoom room wanted) z before after h = h

-- ---- data that were taken

-- what a call leaves, where the buffers had f and s before, and f' and s' after it
pub record Took (since most : ℕ) (m m' : Stores) (r : Result ℕ Untaken) (new f s f' s' : List ℕ)
    : Type 0 where
  pub after : m' ≡ after_call r m
  pub free : m.taken ≡ None
  pub held : held_of m.second f' s' ≡ held_of m.second f s
  pub takes : (z : Snapshot) → HoldsData new z.payloads z.end →
      TakesData since most r m (served_store m f s) z (other_of m.second f' s')
  pub holds : IfOk r (λ n. (z : Snapshot) × HoldsData new z.payloads z.end)

-- by the buffer that has the store that is served
pub took_by : (b : Bool) (since most : ℕ) (m m' : Stores) (r : Result ℕ Untaken)
    (new f s f' s' : List ℕ) → m.second ≡ b → m' ≡ after_call r m → m.taken ≡ None →
    held_of b f' s' ≡ held_of b f s →
    ((z : Snapshot) → m.taken ≡ None → HoldsData new z.payloads z.end →
    TakesData since most r m (front_of m.served (held_of b f s)) z (other_of b f' s')) →
    IfOk r (λ n. (z : Snapshot) × HoldsData new z.payloads z.end) →
    Took since most m m' r new f s f' s'
took_by b since most m m' r new f s f' s' is after free held takes holds = record {
  after = after;
  free = free;
  held = subst (λ c. held_of c f' s' ≡ held_of c f s) (sym is) held;
  takes = λ z h.
      subst (λ c. TakesData since most r m (front_of m.served (held_of c f s)) z
      (other_of c f' s')) (sym is) (takes z free h);
  holds = holds;
}

-- what is served stays
stays_served : (m : Stores) (r : Result ℕ Untaken) (f s f' s' : List ℕ) → m.unsaved ≡ None →
    held_of m.second f' s' ≡ held_of m.second f s →
    served_store (after_call r m) f' s' ≡ served_store m f s
stays_served m (Err why) f s f' s' un held = ap (front_of m.served) held
stays_served m (Ok n) f s f' s' un held =
    subst (λ u. served_store (after_taking_in u n m) f' s' ≡ served_store m f s) (sym un)
    (ap (front_of m.served) held)

pub serves_as_before : {since most : ℕ} {m m' : Stores} {r : Result ℕ Untaken}
    {new f s f' s' : List ℕ} → Took since most m m' r new f s f' s' → m.unsaved ≡ None →
    served_store m' f' s' ≡ served_store m f s
serves_as_before {since} {most} {m} {m'} {r} {new} {f} {s} {f'} {s'} t un =
    ap (λ (n : Stores). served_store n f' s') t.after ∙ stays_served m r f s f' s' un t.held

-- the store of data that were taken waits
waits : (since most n : ℕ) (xs : List Snapshot) (file o : Option (List ℕ)) (z : Snapshot)
    (after : List ℕ) → TakesAfter since most (Ok n) o z after → MayTake xs o →
    IsLife xs file o None → IsLife xs file o (Some (take n after))
waits since most n xs file None z after t may l =
    subst (λ ys. IsLife ys file None (Some (take n after))) (sym may)
    (took_first file None (take n after) z [] (subst (λ ys. IsLife ys file None None) may l) t.0)
waits since most n xs file (Some b) z after t may l =
    let e = (lives xs file (Some b) None l).of_present.extends in
    took xs file None b (take n after) z e.z e.ys l e.store (t e.z e.ys e.store).0

goes_on_in : (since most : ℕ) (m : Stores) (r : Result ℕ Untaken) (xs : List Snapshot)
    (file : Option (List ℕ)) (new f s f' s' : List ℕ) → m.unsaved ≡ None → m.taken ≡ None →
    ((z : Snapshot) → HoldsData new z.payloads z.end →
    TakesData since most r m (served_store m f s) z (other_of m.second f' s')) →
    IfOk r (λ n. (z : Snapshot) × HoldsData new z.payloads z.end) →
    MayTake xs (served_store m f s) → IsLife xs file (served_store m f s) None →
    IsLife xs file (served_store m f s) (taken_store (after_call r m) f' s')
goes_on_in since most m (Err why) xs file new f s f' s' un free takes holds may l =
    subst (λ t. IsLife xs file (served_store m f s) (front_of t (other_of m.second f' s')))
    (sym free) l
goes_on_in since most m (Ok n) xs file new f s f' s' un free takes holds may l =
    subst (λ u. IsLife xs file (served_store m f s) (taken_store (after_taking_in u n m) f' s'))
    (sym un)
    (waits since most n xs file (served_store m f s) holds.0 (other_of m.second f' s')
    (takes holds.0 holds.1).2 may l)

pub goes_on : {since most : ℕ} {m m' : Stores} {r : Result ℕ Untaken}
    {new f s f' s' : List ℕ} → Took since most m m' r new f s f' s' → (xs : List Snapshot)
    (file : Option (List ℕ)) → m.unsaved ≡ None → MayTake xs (served_store m f s) →
    IsLife xs file (served_store m f s) (taken_store m f s) →
    IsLife xs file (served_store m' f' s') (taken_store m' f' s')
goes_on {since} {most} {m} {m'} {r} {new} {f} {s} {f'} {s'} t xs file un may l =
    let none = subst (λ k. IsLife xs file (served_store m f s) (front_of k (other_of m.second f s)))
    t.free l in
    let on = goes_on_in since most m r xs file new f s f' s' un t.free t.takes t.holds may none in
    subst (λ o. IsLife xs file o (taken_store m' f' s')) (sym (serves_as_before t un))
    (subst (λ (k : Stores). IsLife xs file (served_store m f s) (taken_store k f' s'))
    (sym t.after) on)

-- ---- without a file

pub other_held : (b : Bool) (f s : List ℕ) → held_of (not b) f s ≡ other_of b f s
other_held true f s = refl
other_held false f s = refl

at_once : (since most n t : ℕ) (xs : List Snapshot) (o : Option (List ℕ)) (z : Snapshot)
    (after : List ℕ) → TakesAfter since most (Ok n) o z after → z.end.session ≡ t →
    IsUnsavedLife xs t o → IsUnsavedLife (z ∷ xs) t (Some (take n after))
at_once since most n t xs None z after k is l =
    served_first xs t (take n after) z [] l k.0 is
at_once since most n t xs (Some b) z after k is l =
    let e = (lives_unsaved xs t (Some b) l).1 in
    served_next xs t b (take n after) z e.x e.ys l e.store (k e.x e.ys e.store).0 is

at_once_in : (since most t : ℕ) (m : Stores) (r : Result ℕ Untaken) (xs : List Snapshot)
    (z : Snapshot) (f s f' s' : List ℕ) → m.unsaved ≡ Some t → IsOk r →
    TakesData since most r m (served_store m f s) z (other_of m.second f' s') →
    IsUnsavedLife xs t (served_store m f s) →
    IsUnsavedLife (z ∷ xs) t (served_store (after_call r m) f' s')
at_once_in since most t m (Err why) xs z f s f' s' un ok takes l =
    let wrong : false ≡ true = ok in
    absurd cc
at_once_in since most t m (Ok n) xs z f s f' s' un ok takes l =
    let is = subst (λ u. MayBeOf u z.end.session) un takes.1 in
    subst (λ u. IsUnsavedLife (z ∷ xs) t (served_store (after_taking_in u n m) f' s')) (sym un)
    (subst (λ b. IsUnsavedLife (z ∷ xs) t (Some (take n b))) (sym (other_held m.second f' s'))
    (at_once since most n t xs (served_store m f s) z (other_of m.second f' s') takes.2 is l))

pub serves_at_once : {since most : ℕ} {m m' : Stores} {r : Result ℕ Untaken}
    {new f s f' s' : List ℕ} → Took since most m m' r new f s f' s' → (xs : List Snapshot)
    (t : ℕ) (z : Snapshot) → m.unsaved ≡ Some t → HoldsData new z.payloads z.end →
    IsUnsavedLife xs t (served_store m f s) → IsOk r →
    IsUnsavedLife (z ∷ xs) t (served_store m' f' s')
serves_at_once {since} {most} {m} {m'} {r} {new} {f} {s} {f'} {s'} k xs t z un h l ok =
    subst (λ (n : Stores). IsUnsavedLife (z ∷ xs) t (served_store n f' s')) (sym k.after)
    (at_once_in since most t m r xs z f s f' s' un ok (k.takes z h) l)

-- ---- data that were saved

abbrev bytes_in : Option (List ℕ) → List ℕ
bytes_in None = []
bytes_in (Some b) = b

saves_in : (t : Option ℕ) (m : Stores) (xs : List Snapshot) (f s b : List ℕ) (z : Snapshot)
    (ys : List Snapshot) → front_of t (other_of m.second f s) ≡ Some b → HoldsStore b z ys →
    IsLife xs (Some b) (served_store m f s) (Some b) →
    IsLife (z ∷ xs) (Some b) (served_store (after_saving t m) f s)
    (taken_store (after_saving t m) f s)
saves_in None m xs f s b z ys is h l = absurd cc
saves_in (Some n) m xs f s b z ys is h l =
    let same : b ≡ take n (held_of (not m.second) f s) =
    sym (ap bytes_in is) ∙ ap (take n) (sym (other_held m.second f s)) in
    subst (λ c. IsLife (z ∷ xs) (Some b) (Some c) None) same
    (saved xs (served_store m f s) b z ys l h)

pub saves : (m m' : Stores) (xs : List Snapshot) (f s b : List ℕ) (z : Snapshot)
    (ys : List Snapshot) → m' ≡ after_saving m.taken m → taken_store m f s ≡ Some b →
    HoldsStore b z ys → IsLife xs (Some b) (served_store m f s) (Some b) →
    IsLife (z ∷ xs) (Some b) (served_store m' f s) (taken_store m' f s)
saves m m' xs f s b z ys after is h l =
    subst (λ (n : Stores). IsLife (z ∷ xs) (Some b) (served_store n f s) (taken_store n f s))
    (sym after)
    (saves_in m.taken m xs f s b z ys is h l)

-- ---- what a call wrote

-- data that were looked at
pub looked_at : (since most : ℕ) (r : Result ℕ Untaken) (m : Stores) (o : Option (List ℕ))
    (z : Snapshot) (after : List ℕ) → ComesLate r → m.taken ≡ None →
    MayBeOf m.unsaved z.end.session → TakesAfter since most r o z after →
    TakesData since most r m o z after
looked_at since most (Ok n) m o z after late free may t = (free, may, t)
looked_at since most (Err untaken.Waits) m o z after late free may t = absurd late
looked_at since most (Err untaken.OtherSession) m o z after late free may t = absurd late
looked_at since most (Err untaken.SessionLeft) m o z after late free may t = (free, may, t)
looked_at since most (Err (untaken.Refused r)) m o z after late free may t = (free, may, t)
looked_at since most (Err untaken.Malformed) m o z after late free may t = (free, may, t)
looked_at since most (Err (untaken.NoRoom wanted)) m o z after late free may t = (free, may, t)

pub checks_new_first : (t : Option ℕ) (r : Result ℕ Untaken) (new : List ℕ) →
    IfErr r (IsFlawOfNew new) → ComesLate r → ((z : Snapshot) × HoldsData new z.payloads z.end) →
    ChecksNewFirst t r new
checks_new_first t (Ok n) new flaw late h = h
checks_new_first t (Err untaken.Waits) new flaw late h = absurd late
checks_new_first t (Err untaken.OtherSession) new flaw late h = h
checks_new_first t (Err untaken.SessionLeft) new flaw late h = h
checks_new_first t (Err (untaken.Refused r)) new flaw late h = checks_first (Err r) new flaw h
checks_new_first t (Err untaken.Malformed) new flaw late h = h
checks_new_first t (Err (untaken.NoRoom wanted)) new flaw late h = h

-- what holds of a length, where there is one
pub of_length : (r : Result ℕ Untaken) (P Q : ℕ → Type 0) → ((n : ℕ) → P n → Q n) → IfOk r P →
    IfOk r Q
of_length (Ok n) P Q f p = f n p
of_length (Err why) P Q f p = tt

-- the data that a call took are there, whatever it returned
pub if_ok : (r : Result ℕ Untaken) (P : Type 0) → P → IfOk r (λ n. P)
if_ok (Ok n) P p = p
if_ok (Err why) P p = tt

-- a store that a cache without a file took is served at once
pub noted : (m : Stores) (n t : ℕ) → m.unsaved ≡ Some t →
    after_taking_in m.unsaved n m ≡ after_saving (Some n) (record m { taken = Some n })
noted m n t un =
    subst (λ u. after_taking_in u n m ≡ after_saving (Some n) (record m { taken = Some n }))
    (sym un) refl

pub noted_to_save : (m : Stores) (n : ℕ) → m.unsaved ≡ None →
    after_taking_in m.unsaved n m ≡ record m { taken = Some n }
noted_to_save m n un =
    subst (λ u. after_taking_in u n m ≡ record m { taken = Some n }) (sym un) refl

-- ---- what is served

pub front_is : (o : Option ℕ) (n : ℕ) (b c : List ℕ) → o ≡ Some n → front_of o b ≡ Some c →
    take n b ≡ c
front_is o n b c is h = subst (λ u. bytes_in (front_of u b) ≡ c) is (ap bytes_in h)

pub no_front : (o : Option ℕ) (b c : List ℕ) → o ≡ None → front_of o b ≡ Some c → ⊥
no_front o b c is h =
    let wrong : front_of None b ≡ Some c = subst (λ u. front_of u b ≡ Some c) is h in absurd cc

pub record Last (xs : List Snapshot) (b : List ℕ) : Type 0 where
  pub z : Snapshot
  pub before : List Snapshot
  pub ys : List Snapshot
  pub all : xs ≡ z ∷ before
  pub store : HoldsStore b z ys

-- the store that is served has the data that were served last
pub served_last : (xs : List Snapshot) (file taken : Option (List ℕ)) (b : List ℕ) →
    IsLife xs file (Some b) taken → Last xs b
served_last xs file taken b l =
    let s = (lives xs file (Some b) taken l).of_present in
    record {
      z = s.x;
      before = s.before;
      ys = s.extends.ys;
      all = s.all;
      store = subst (λ z. HoldsStore b z s.extends.ys) s.same s.extends.store;
    }

-- ---- checks

pub checked : (r : Result EndOfData CheckFault) (b : List ℕ) → HasPart b →
    ChecksHistory r (part_rest b) → ChecksStore r b
checked (Ok end) b part (x, ys, h, is) = (x, ys, record { first = part; history = h }, is)
checked (Err faults.Malformed) b part none = λ x ys h. none x ys h.history
checked (Err (faults.NoRoom room wanted)) b part h = tt

pub short_check : (r : Result EndOfData CheckFault) (n m i b : ℕ) → n ≤ m →
    IsShortForCheck r n i b → IsShortForCheck r m i b
short_check (Ok end) n m i b le h = tt
short_check (Err faults.Malformed) n m i b le h = tt
short_check (Err (faults.NoRoom rooms.Index w)) n m i b le h = (h.0, omega (arith, h.1, le))
short_check (Err (faults.NoRoom rooms.Buffer w)) n m i b le h = (h.0, omega (arith, h.1, le))
short_check (Err (faults.NoRoom rooms.Spare w)) n m i b le h = h
short_check (Err (faults.NoRoom rooms.Output w)) n m i b le h = h

-- ---- slices that are too short

pub more_room : (r : Refused) (b b' o o' have out : ℕ) → b ≤ b' → o ≤ o' →
    IsShortForNewer (Err r) b o have out → IsShortForNewer (Err r) b' o' have out
more_room (refusals.Flaw f) b b' o o' have out lb lo h = tt
more_room (refusals.UnitVersion v) b b' o o' have out lb lo h = tt
more_room refusals.Same b b' o o' have out lb lo h = tt
more_room refusals.Times b b' o o' have out lb lo h = tt
more_room refusals.Serial b b' o o' have out lb lo h = tt
more_room refusals.Malformed b b' o o' have out lb lo h = tt
more_room (refusals.NoRoom rooms.Index w) b b' o o' have out lb lo h = h
more_room (refusals.NoRoom rooms.Buffer w) b b' o o' have out lb lo h =
    (h.0, omega (arith, h.1, lb))
more_room (refusals.NoRoom rooms.Spare w) b b' o o' have out lb lo h = h
more_room (refusals.NoRoom rooms.Output w) b b' o o' have out lb lo h =
    (h.0, omega (arith, h.1, lo))

pub first_room : (r : Refused) (n b s : ℕ) → IsShortForNewer (Err r) 0 (16 + n) 0 s →
    IsShortForNewer (Err r) n (32 + 2 * n) b s
first_room (refusals.Flaw f) n b s h = tt
first_room (refusals.UnitVersion v) n b s h = tt
first_room refusals.Same n b s h = tt
first_room refusals.Times n b s h = tt
first_room refusals.Serial n b s h = tt
first_room refusals.Malformed n b s h = tt
first_room (refusals.NoRoom rooms.Index w) n b s h = h
first_room (refusals.NoRoom rooms.Buffer w) n b s h = absurd (omega (arith, h.0, h.1))
first_room (refusals.NoRoom rooms.Spare w) n b s h = h
first_room (refusals.NoRoom rooms.Output w) n b s h = (h.0, omega (arith, h.1))

pub wants : (f : TakeFault) (most out n b s : ℕ) → most ≤ 18 + n + s →
    WantsOutput (Err f) most out → IsShortForTaking (Err (taken_fault f)) n b s out
wants untakes.SessionLeft most out n b s le h = tt
wants untakes.Malformed most out n b s le h = tt
wants (untakes.NoRoom w) most out n b s le h = (h.0, omega (arith, h.1, le))

-- ---- faults of stores

pub not_stored : (since most : ℕ) (f : TakeFault) (b : List ℕ) (s t : ℕ) (h : List ℕ)
    (x z : Snapshot) (ys zs : List Snapshot) (after after' : List ℕ) →
    WritesStore (Err f) b s t h x z ys zs after → HoldsStore b x ys → s ≡ x.end.session →
    t ≡ z.end.session → TakesLater since most (Err (taken_fault f)) b z x ys after'
not_stored since most untakes.SessionLeft b s t h x z ys zs after after' w k is next = (
  λ e. w.0 (next ∙ e ∙ sym is),
  subst (λ n. IsAmong n (left_sessions b)) next (w.1 k),
)
not_stored since most untakes.Malformed b s t h x z ys zs after after' w k is next = w k
not_stored since most (untakes.NoRoom m) b s t h x z ys zs after after' w k is next = tt

pub not_begun : (f : TakeFault) (z : Snapshot) (ys : List Snapshot) (after after' : List ℕ) →
    BeginsStore (Err f) z ys after → TakesFirst (Err (taken_fault f)) z after'
not_begun untakes.SessionLeft z ys after after' h = h
not_begun untakes.Malformed z ys after after' h = h
not_begun (untakes.NoRoom w) z ys after after' h = tt
