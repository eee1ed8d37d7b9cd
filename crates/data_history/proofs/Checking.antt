-- All steps back, joined to one list of changes, which the data allow if and only if they go back.
use Rattle.std.proofs.Common.{◌≡◌, ◌≢◌, ◌≤◌, ◌<◌, ◌-◌, ◌^◌, ℕ, List, [], ◌∷◌, ◌++◌}
use Rattle.std.proofs.Common.{Some, Result, Ok, Err, length, take, map, refl, sym, ap}
use Rattle.std.proofs.Common.{subst, ◌∙◌, arith, append-nil}
use Rattle.std.proofs.lemmas.List.{map-append}
use Rattle.rtr_units.specs.End.{EndMeaning, end_list}
use Rattle.rtr_payload.specs.Payloads.{Payload}
use Rattle.rtr_wire.specs.Sequences.{AreUnits}
use Rattle.rtr_wire.proofs.Runs.{forms_are_units}
use Rattle.data_memory.specs.Changes.{after_all}
use Rattle.data_memory.specs.Data.{Change}
use Rattle.data_memory.specs.Deltas.{change_forms, unit_of}
use Rattle.data_memory.specs.declared.change_error.ChangeError.{ChangeError}
use Rattle.data_memory.proofs.Delta.{after_append}
use Rattle.data_memory.proofs.Merge.{refused_all}
use Rattle.data_slices.specs.Canonical.{HoldsData, PlacesFront}
use Rattle.data_slices.specs.CanonicalChanges.{HoldsChanges}
use Rattle.data_slices.specs.Flaws.{IsFlawOfChanges}
use Rattle.data_slices.specs.Apply.{data_form}
use Rattle.data_slices.specs.InOrder.{AppliesInOrder, AreAllowed, ChecksInOrder, IsMade}
use Rattle.data_slices.specs.Order.{Sends}
use Rattle.data_slices.specs.declared.fault.Flaw.{Flaw}
use Rattle.data_slices.specs.declared.in_order_fault.InOrderFault.{InOrderFault}
use Rattle.data_slices.specs.declared.in_order_fault.InOrderFault.TheVariants as faults
use Rattle.data_slices.proofs.AsTheyCame.{refuses_none}
use Rattle.data_slices.proofs.Reapplied.{one_changes}
use Rattle.data_slices.proofs.Units.{units_join}
use Rattle.data_history.specs.Parts.{HasPart, part_bytes, part_rest}
use Rattle.data_history.specs.Checks.{ChecksHistory, IsShortForCheck}
use Rattle.data_history.specs.PrivateChecks.{AllJoined, Allows, AreSteps, JoinsAll, IsShortForSteps}
use Rattle.data_history.specs.PrivateChecks.{LacksIndex, MayBeNext}
use Rattle.data_history.specs.declared.check.CheckFault.{CheckFault}
use Rattle.data_history.specs.declared.check.CheckFault.TheVariants.{Malformed, NoRoom}
use Rattle.data_history.specs.declared.room.Room.TheVariants.{Index, Buffer, Spare, Output}
use Rattle.data_history.specs.Snapshots.{AreBehind, GoesBack, HoldsHistory, LeadsTo, Snapshot}
use Rattle.data_history.specs.Snapshots.{behind_by}
use Rattle.data_history.proofs.Checked.{empty, leads_first}
use Rattle.data_history.proofs.Joining.{after_front, front_of}
use Rattle.data_history.proofs.Steps.{no_flaw}

-- data with this end
abbrev pub snapshot : EndMeaning → List Payload → Snapshot
snapshot e d = record { end = e; payloads = d }

-- what some steps lead to
pub record Leads (rest : List ℕ) (cs : List Change) (e : EndMeaning) (last : ℕ)
    (x : Snapshot) : Type 0 where
  pub made : List Payload
  pub others : List Snapshot
  pub leads : after_all cs (Ok x.payloads) ≡ Ok made
  pub more : GoesBack rest (snapshot e made) others
  pub order : AreBehind x.end.serial last others

-- Some steps were joined to the changes that the front of the buffer makes. All steps go back from
-- x
-- if and only if the changes lead to data with this end, from which the rest of them go back.
pub record IsChecked (steps rest buffer : List ℕ) (size last : ℕ) (x : Snapshot) : Type 0 where
  pub changes : List Change
  pub end : EndMeaning
  pub units : AreUnits (take size buffer) (map (unit_of x.end.version) changes)
  pub version : x.end.version ≡ end.version
  pub session : x.end.session ≡ end.session
  pub goes : Leads rest changes end last x → AreSteps steps x
  pub leads : AreSteps steps x → Leads rest changes end last x

pub none_checked : (steps buffer : List ℕ) (x : Snapshot) → IsChecked steps steps buffer 0 0 x
none_checked steps buffer x = record {
  changes = [];
  end = x.end;
  units = refl;
  version = refl;
  session = refl;
  goes = λ l.
      let same : x.payloads ≡ l.made = one_ok x.payloads l.made l.leads in (
        l.others,
        subst (λ d. GoesBack steps (snapshot x.end d) l.others) (sym same) l.more,
        l.order,
      );
  leads = λ (ys, back, order). record {
    made = x.payloads;
    others = ys;
    leads = refl;
    more = back;
    order = order;
  };
}
  where
    one_ok : (d f : List Payload) → ◌≡◌ {A = Result (List Payload) ChangeError} (Ok d) (Ok f) →
        d ≡ f
    one_ok d f e = cc

-- what changes behind others lead to
record Halves (cs ds : List Change) (d f : List Payload) : Type 0 where
  pub made : List Payload
  pub first : after_all cs (Ok d) ≡ Ok made
  pub then : after_all ds (Ok made) ≡ Ok f

halves : (cs ds : List Change) (d f : List Payload) (r : Result (List Payload) ChangeError) →
    after_all cs (Ok d) ≡ r → after_all ds r ≡ Ok f → Halves cs ds d f
halves cs ds d f (Ok m) is h = record { made = m; first = is; then = h }
halves cs ds d f (Err e) is h = absurd (let no = sym (refused_all ds e) ∙ h in cc)

module _ (steps buffer after rest s left : List ℕ) (size last n m : ℕ) (x : Snapshot)
    (end : EndMeaning) (cs : List Change) (j : IsChecked steps rest buffer size last x)
    (part : HasPart rest) (is : s ≡ part_bytes rest) (is' : left ≡ part_rest rest)
    (h : HoldsChanges s cs end) (next : MayBeNext m end x.end last)
    (placed : PlacesFront (Some n) (take size buffer ++ (change_forms end.version cs ++ end_list
    end))
    buffer after) where
  abbrev all : List Change
  all = j.changes ++ cs

  version : x.end.version ≡ end.version
  version = sym next.version

  session : x.end.session ≡ end.session
  session = sym next.session

  abbrev front : List ℕ
  front = take size buffer ++ change_forms end.version cs

  units : AreUnits front (map (unit_of x.end.version) all)
  units =
      subst (AreUnits front) (sym (map-append (unit_of x.end.version) j.changes cs))
      (units_join (take size buffer) (change_forms end.version cs)
      (map (unit_of x.end.version) j.changes) (map (unit_of x.end.version) cs) j.units
      (subst (λ v. AreUnits (change_forms end.version cs) (map (unit_of v) cs)) (sym version)
      (forms_are_units h.accepts.sequence.front (map (unit_of end.version) cs)
      h.accepts.sequence.units)))

  goes : Leads left all end m x → AreSteps steps x
  goes l =
      let t = halves j.changes cs x.payloads l.made (after_all j.changes (Ok x.payloads)) refl
      (sym (after_append j.changes cs (Ok x.payloads)) ∙ l.leads) in
      let lead : LeadsTo s (snapshot j.end t.made) (snapshot end l.made) = record {
        changes = cs;
        holds = h;
        leads = t.then;
        version = sym j.version ∙ version;
        session = sym j.session ∙ session;
      } in
      j.goes (record {
        made = t.made;
        others = snapshot end l.made ∷ l.others;
        leads = t.first;
        more = (
          part,
          subst (λ b. LeadsTo b (snapshot j.end t.made) (snapshot end l.made)) is lead,
          subst (λ b. GoesBack b (snapshot end l.made) l.others) is' l.more,
        );
        order = (
          subst (λ k. last < k) next.behind next.further,
          subst (λ k. k < 2 ^ 31) next.behind next.near,
          subst (λ k. AreBehind x.end.serial k l.others) next.behind l.order,
        );
      })

  leads : AreSteps steps x → Leads left all end m x
  leads steps =
      let l = j.leads steps in
      leads_first rest s end cs (snapshot j.end l.made) l.others (Leads left all end m x) part is h
      l.more
      (λ z zs same step at back.
      let cs_are : step.changes ≡ cs = (one_changes s step.changes cs z.end end step.holds h).0 in
      let far : behind_by z.end.serial x.end.serial ≡ m =
      ap (λ (e : EndMeaning). behind_by e.serial x.end.serial) at ∙ sym next.behind in
      let order : AreBehind x.end.serial last (z ∷ zs) =
      subst (AreBehind x.end.serial last) same l.order in
      record {
        made = z.payloads;
        others = zs;
        leads = after_append j.changes cs (Ok x.payloads) ∙ ap (after_all cs) l.leads
            ∙ ap (λ c. after_all c (Ok l.made)) (sym cs_are) ∙ step.leads;
        more = subst (λ e. GoesBack left (snapshot e z.payloads) zs) at
            (subst (λ b. GoesBack b z zs) (sym is') back);
        order = subst (λ k. AreBehind x.end.serial k zs) far order.2;
      })

  -- another step behind it
  pub checked_more : IsChecked steps left after (n - length (end_list end)) m x
  checked_more = record {
    changes = all;
    end = end;
    units = subst (λ l. AreUnits l (map (unit_of x.end.version) all))
        (sym (front_of buffer after size n cs end placed)) units;
    version = version;
    session = session;
    goes = goes;
    leads = leads;
  }

  -- no step is behind it
  pub checked_all : length left ≡ 0 → AllJoined steps (take n after) x
  checked_all none = record {
    changes = all;
    end = end;
    sends = record {
      bytes = front ++ end_list end;
      accepts = record {
        rest = [];
        parts = after_front buffer after size n cs end placed
            ∙ sym (append-nil (front ++ end_list end));
        sequence = record {
          front = front;
          last = end_list end;
          parts = refl;
          units = subst (λ v. AreUnits front (map (unit_of v) all)) version units;
          end = record { fits = h.accepts.sequence.end.fits; bytes = refl };
        };
      };
    };
    version = version;
    session = session;
    goes = λ (made, is).
        goes (record {
          made = made;
          others = [];
          leads = is;
          more = empty left none;
          order = tt;
        });
    allowed = λ steps. let l = leads steps in (l.made, l.leads);
  }

-- ---- steps that don't go back

module _ (steps rest buffer : List ℕ) (size last : ℕ) (x : Snapshot)
    (j : IsChecked steps rest buffer size last x) (goes : AreSteps steps x) where
  pub not_there : (length rest ≢ 0) → (HasPart rest → ⊥) → ⊥
  not_there some absent =
      let l = j.leads goes in no_part_of l.others l.more
    where
      no_part_of : (zs : List Snapshot) →
          GoesBack rest (snapshot j.end (j.leads goes).made) zs → ⊥
      no_part_of [] g = some (ap length g)
      no_part_of (z ∷ zs) g = absent g.0

  pub not_flawed : (s : List ℕ) (f : Flaw) → HasPart rest → s ≡ part_bytes rest →
      IsFlawOfChanges s f → ⊥
  not_flawed s f part is flaw =
      let l = j.leads goes in no_flaw rest s f (snapshot j.end l.made) l.others part is flaw l.more

  pub not_next : (s : List ℕ) (end : EndMeaning) (cs : List Change) → HasPart rest →
      s ≡ part_bytes rest → HoldsChanges s cs end →
      (MayBeNext (behind_by end.serial x.end.serial) end x.end last → ⊥) → ⊥
  not_next s end cs part is h not =
      let l = j.leads goes in
      leads_first rest s end cs (snapshot j.end l.made) l.others ⊥ part is h l.more
      (λ z zs same step at back.
      let order : AreBehind x.end.serial last (z ∷ zs) =
      subst (AreBehind x.end.serial last) same l.order in
      let far : behind_by z.end.serial x.end.serial ≡ behind_by end.serial x.end.serial =
      ap (λ (e : EndMeaning). behind_by e.serial x.end.serial) at in
      not (record {
        version = ap (λ (e : EndMeaning). e.version) (sym at) ∙ sym step.version ∙ sym j.version;
        session = ap (λ (e : EndMeaning). e.session) (sym at) ∙ sym step.session ∙ sym j.session;
        behind = refl;
        further = subst (λ k. last < k) far order.0;
        near = subst (λ k. k < 2 ^ 31) far order.1;
      }))

-- ---- whether the data allow them

-- what is refused is a change that the data don't allow
pub not_allowed : (f : InOrderFault) (base input : List ℕ) (places : ℕ) (x : Snapshot)
    (cs : List Change) (e : EndMeaning) → HoldsData base x.payloads x.end → Sends input cs e →
    x.end.version ≡ e.version → x.end.session ≡ e.session → length cs ≤ places →
    ChecksInOrder (Err f) base input places → AreAllowed cs x.payloads → ⊥
not_allowed f base input places x cs e h s v t few w (made, is) = stops f w
  where
    none : (f : InOrderFault) → AppliesInOrder (Err f) base input places [] [] →
        IsMade (Err f) (data_form made e) [] []
    none f w =
        refuses_none places base input [] [] x.payloads made cs x.end e h s v t few is (Err f) w

    stops : (f : InOrderFault) → ChecksInOrder (Err f) base input places → ⊥
    stops (faults.Data f) w = none (faults.Data f) (w, refl)
    stops (faults.Changes f) w = none (faults.Changes f) (w, refl)
    stops (faults.UnitVersion n) w = none (faults.UnitVersion n) (w, refl)
    stops (faults.Session n) w = none (faults.Session n) (w, refl)
    stops faults.NoIndex w = none faults.NoIndex (w, refl)
    stops (faults.Duplicate o) w = none (faults.Duplicate o) (w, refl)
    stops (faults.Unknown o) w = none (faults.Unknown o) (w, refl)
    stops faults.NoRoom w = w

-- ---- bytes that are a history or not

pub joined_history : (b present steps : List ℕ) (x : Snapshot) → HasPart b →
    present ≡ part_bytes b → steps ≡ part_rest b → HoldsData present x.payloads x.end →
    AreSteps steps x → (ys : List Snapshot) × HoldsHistory b x ys
joined_history b present steps x part is is' h (ys, back, order) = (
  ys,
  record {
    first = part;
    holds = subst (λ l. HoldsData l x.payloads x.end) is h;
    back = subst (λ l. GoesBack l x ys) is' back;
    order = order;
  },
)

-- the steps of a history go back
pub steps_of : (b steps : List ℕ) (x : Snapshot) (ys : List Snapshot) → steps ≡ part_rest b →
    HoldsHistory b x ys → AreSteps steps x
steps_of b steps x ys is h = (ys, subst (λ l. GoesBack l x ys) (sym is) h.back, h.order)

pub not_read : (f : CheckFault) (b steps after : List ℕ) →
    ((x : Snapshot) (ys : List Snapshot) → HoldsHistory b x ys →
    JoinsAll (Err f) steps x after × AreSteps steps x) → ChecksHistory (Err f) b
not_read Malformed b steps after h = λ x ys history. let t = h x ys history in t.0 t.1
not_read (NoRoom room wanted) b steps after h = tt

pub not_checked : (f : CheckFault) (b : List ℕ) →
    ((x : Snapshot) (ys : List Snapshot) → HoldsHistory b x ys →
    (cs : List Change) × Allows (Err f) cs x.payloads × AreAllowed cs x.payloads) →
    ChecksHistory (Err f) b
not_checked Malformed b h = λ x ys history. let t = h x ys history in t.1 t.2
not_checked (NoRoom room wanted) b h = tt

-- ---- which slice is too short

pub buffer_named : (f : CheckFault) (steps n i b : ℕ) → IsShortForSteps (Err f) steps b → steps ≤ n
    →
    IsShortForCheck (Err f) n i b
buffer_named Malformed steps n i b l le = tt
buffer_named (NoRoom Index w) steps n i b l le = absurd l
buffer_named (NoRoom Buffer w) steps n i b l le = (omega (arith, l.0, l.1), omega (arith, l.0, le))
buffer_named (NoRoom Spare w) steps n i b l le = absurd l
buffer_named (NoRoom Output w) steps n i b l le = absurd l

pub index_named : (f : CheckFault) (changes n i b : ℕ) → LacksIndex (Err f) changes i →
    changes ≤ n → IsShortForCheck (Err f) n i b
index_named Malformed changes n i b l le = tt
index_named (NoRoom Index w) changes n i b l le = (l.1, omega (arith, l.0, le))
index_named (NoRoom Buffer w) changes n i b l le = absurd l
index_named (NoRoom Spare w) changes n i b l le = absurd l
index_named (NoRoom Output w) changes n i b l le = absurd l
