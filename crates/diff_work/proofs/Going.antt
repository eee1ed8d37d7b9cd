-- Changes that are printed one after the other.
use Rattle.std.proofs.Common.{◌≡◌, ℕ, Bool, true, false, ◌||◌, List, [], ◌∷◌, ◌++◌, map}
use Rattle.std.proofs.Common.{Result, Ok, Err, refl, sym, ap, ◌∙◌, subst}
use Rattle.std.proofs.KnownBytes.{Appends-nil, Appends-trans}
use Rattle.std.proofs.lemmas.List.{append_assoc, append-nil, length-append}
use Rattle.std.specs.Io.KnownBytes.{Appends}
use Rattle.std.proofs.Common.{arith}
use Rattle.rtr_base.specs.declared.action.Action.{Action}
use Rattle.rtr_units.specs.StopCauses.{WriterState, writer_count, by_cause}
use Rattle.rtr_units.specs.declared.fault.Fault.{Fault}
use Rattle.rtr_units.specs.declared.fault.Fault.TheVariants as faults
use Rattle.rtr_payload.specs.Payloads.{Payload}
use Rattle.data_memory.specs.Data.{Change}
use Rattle.data_memory.proofs.Fronts.{Wrote}
use Rattle.diff_work.specs.Differences.{change_piece, change_pieces, has_some}
use Rattle.diff_work.specs.PrivateChanges.{change_by}
use Rattle.diff_work.specs.Printing.{Puts, StopsPrinting}
use Rattle.diff_work.specs.declared.words.Form.{Form}

-- ---- a text in two parts

longer : (e : Fault) (missing more : List ℕ) → StopsPrinting e missing →
    StopsPrinting e (missing ++ more)
longer (faults.Writer e) missing more h = omega (arith, h, length-append missing more)
longer (faults.Reader e) missing more h = absurd h
longer faults.Short missing more h = absurd h
longer (faults.UnitType t) missing more h = absurd h
longer faults.UnitLength missing more h = absurd h
longer faults.TooLong missing more h = absurd h
longer faults.EmptyProviders missing more h = absurd h
longer (faults.UnitVersion v) missing more h = absurd h
longer (faults.Refused report) missing more h = absurd h
longer faults.TooMany missing more h = absurd h
longer faults.Memory missing more h = tt

-- the first part wasn't printed whole
pub part_stops : (e : Fault) (a b : WriterState) (x y all : List ℕ) → all ≡ x ++ y →
    Puts {T = Bool} (Err e) a b x → Puts {T = Bool} (Err e) a b all
part_stops e a b x y all is ((first, missing, put, parts, stop), m) = (
  (
    first,
    missing ++ y,
    put,
    is ∙ ap (λ (l : List ℕ). l ++ y) parts ∙ append_assoc first missing y,
    longer e missing y stop,
  ),
  m,
)

-- the first part was printed
pub part_printed : {S T : Type 0} (s : S) (r : Result T Fault) (a b c : WriterState)
    (x y all : List ℕ) → all ≡ x ++ y → Puts {T = S} (Ok s) a b x → Puts r b c y → Puts r a c all
part_printed s (Ok t) a b c x y all is (put, m) (more, n) = (
  subst (λ (l : List ℕ). Appends a.held c.held l) (sym is)
      (Appends-trans a.held b.held c.held x y put more),
  n ∙ m,
)
part_printed s (Err e) a b c x y all is (put, m) ((first, missing, more, parts, stop), n) = (
  (
    x ++ first,
    missing,
    Appends-trans a.held b.held c.held x first put more,
    is ∙ ap (λ (l : List ℕ). x ++ l) parts ∙ sym (append_assoc x first missing),
    stop,
  ),
  n ∙ ap (writer_count (by_cause {T = Bool} (Err e))) m,
)

-- ---- pieces

pub pieces_append : (form : Form) (v : ℕ) (xs ys : List Change) →
    change_pieces form v (xs ++ ys) ≡ change_pieces form v xs ++ change_pieces form v ys
pieces_append form v [] ys = refl
pieces_append form v (x ∷ xs) ys =
    ap (λ (l : List ℕ). change_piece form v x ++ l) (pieces_append form v xs ys)
    ∙ sym (append_assoc (change_piece form v x) (change_pieces form v xs)
    (change_pieces form v ys))

pub some_append : (xs ys : List Change) → has_some (xs ++ ys) ≡ (has_some xs || has_some ys)
some_append [] ys = refl
some_append (x ∷ xs) ys = refl

-- these changes were printed, with whether there is one
pub record Done (form : Form) (v : ℕ) (a b : WriterState) (any : Bool)
    (cs : List Change) : Type 0 where
  pub wrote : Puts {T = Bool} (Ok any) a b (change_pieces form v cs)
  pub shows : any ≡ has_some cs

pub done_none : (form : Form) (v : ℕ) (a : WriterState) → Done form v a a false []
done_none form v a = record { wrote = (Appends-nil a.held, refl); shows = refl }

some_push : (cs : List Change) (c : Change) → true ≡ has_some (cs ++ c ∷ [])
some_push [] c = refl
some_push (x ∷ cs) c = refl

pub done_more : (form : Form) (v : ℕ) (a b d : WriterState) (any : Bool)
    (cs qs : List Change) (c : Change) → qs ≡ cs ++ c ∷ [] → Done form v a b any cs →
    Wrote b d (change_piece form v c) → Done form v a d true qs
done_more form v a b d any cs qs c is done put = record {
  wrote = part_printed {S = Bool} {T = Bool} any (Ok true) a b d _ _ _
      (ap (change_pieces form v) is ∙ pieces_append form v cs (c ∷ [])
      ∙ ap (λ (l : List ℕ). change_pieces form v cs ++ l) (append-nil (change_piece form v c)))
      done.wrote put;
  shows = some_push cs c ∙ ap has_some (sym is);
}

pub done_same : (form : Form) (v : ℕ) (a b : WriterState) (any : Bool) (cs qs : List Change) →
    qs ≡ cs → Done form v a b any cs → Done form v a b any qs
done_same form v a b any cs qs is done = subst (λ l. Done form v a b any l) (sym is) done

pub done_stops : (form : Form) (v : ℕ) (a b d : WriterState) (any : Bool) (e : Fault)
    (cs ds all : List Change) (c : Change) → all ≡ cs ++ c ∷ ds → Done form v a b any cs →
    Puts {T = Unit {0}} (Err e) b d (change_piece form v c) →
    Puts {T = Bool} (Err e) a d (change_pieces form v all)
done_stops form v a b d any e cs ds all c is done put =
    part_printed {T = Bool} any (Err e) a b d _ _ _
    (ap (change_pieces form v) is ∙ pieces_append form v cs (c ∷ ds)) done.wrote
    (part_stops e b d (change_piece form v c) (change_pieces form v ds) _ refl put)

-- memory runs out between two changes
pub done_starves : (form : Form) (v : ℕ) (a b : WriterState) (any : Bool)
    (cs ds all : List Change) → all ≡ cs ++ ds → Done form v a b any cs →
    Puts {T = Bool} (Err faults.Memory) a b (change_pieces form v all)
done_starves form v a b any cs ds all is done =
    part_printed {T = Bool} any (Err faults.Memory) a b b _ _ _
    (ap (change_pieces form v) is ∙ pieces_append form v cs ds) done.wrote
    (([], change_pieces form v ds, Appends-nil b.held, refl, tt), refl)

-- ---- the form and the version that a printer has

pub in_form : (r : Result (Unit {0}) Fault) (a b : WriterState) (form other : Form)
    (v w : ℕ) (c : Change) → other ≡ form → w ≡ v → Puts r a b (change_piece other w c) →
    Puts r a b (change_piece form v c)
in_form r a b form other v w c e h put =
    subst (λ (l : List ℕ). Puts r a b l)
    (ap (λ (x : Form). change_piece x w c) e ∙ ap (λ (n : ℕ). change_piece form n c) h) put

pub wrote_in_form : (a b : WriterState) (form other : Form) (v w : ℕ) (c : Change) →
    other ≡ form → w ≡ v → Wrote a b (change_piece other w c) → Wrote a b (change_piece form v c)
wrote_in_form a b form other v w c e h put =
    subst (λ (l : List ℕ). Wrote a b l)
    (ap (λ (x : Form). change_piece x w c) e ∙ ap (λ (n : ℕ). change_piece form n c) h) put

pub pieces_in_form : (r : Result Bool Fault) (a b : WriterState) (form other : Form)
    (v w : ℕ) (cs : List Change) → other ≡ form → w ≡ v → Puts r a b (change_pieces other w cs) →
    Puts r a b (change_pieces form v cs)
pieces_in_form r a b form other v w cs e h put =
    subst (λ (l : List ℕ). Puts r a b l)
    (ap (λ (x : Form). change_pieces x w cs) e ∙ ap (λ (n : ℕ). change_pieces form n cs) h) put

-- some changes were printed, and then others or a front of them
pub then_changes : (x : Bool) (r : Result Bool Fault) (a b d : WriterState) (form : Form) (v : ℕ)
    (cs ds all : List Change) → all ≡ cs ++ ds →
    Puts {T = Bool} (Ok x) a b (change_pieces form v cs) →
    Puts r b d (change_pieces form v ds) → Puts r a d (change_pieces form v all)
then_changes x r a b d form v cs ds all is first second =
    part_printed {S = Bool} {T = Bool} x r a b d _ _ _
    (ap (change_pieces form v) is ∙ pieces_append form v cs ds) first second

-- some changes weren't all printed, and others were to come
pub changes_stop : (e : Fault) (a b : WriterState) (form : Form) (v : ℕ)
    (cs ds all : List Change) → all ≡ cs ++ ds →
    Puts {T = Bool} (Err e) a b (change_pieces form v cs) →
    Puts {T = Bool} (Err e) a b (change_pieces form v all)
changes_stop e a b form v cs ds all is first =
    part_stops e a b _ _ _ (ap (change_pieces form v) is ∙ pieces_append form v cs ds) first

any_or : (x y z : Bool) → ((x || y) || z) ≡ (x || (y || z))
any_or true y z = refl
any_or false y z = refl

pub any_of_three : (x y z : Bool) (ps qs rs all : List Change) → all ≡ ps ++ (qs ++ rs) →
    x ≡ has_some ps → y ≡ has_some qs → z ≡ has_some rs → ((x || y) || z) ≡ has_some all
any_of_three x y z ps qs rs all is e f h =
    any_or x y z
    ∙ ap (λ (b : Bool). b || (y || z)) e
    ∙ ap (λ (b : Bool). has_some ps || (b || z)) f
    ∙ ap (λ (b : Bool). has_some ps || (has_some qs || b)) h
    ∙ ap (λ (b : Bool). has_some ps || b) (sym (some_append qs rs))
    ∙ sym (some_append ps (qs ++ rs)) ∙ ap has_some (sym is)

pub any_of_two : (x y : Bool) (ps qs all : List Change) → all ≡ ps ++ qs →
    x ≡ has_some ps → y ≡ has_some qs → (x || y) ≡ has_some all
any_of_two x y ps qs all is e f =
    ap (λ (b : Bool). b || y) e ∙ ap (λ (b : Bool). has_some ps || b) f
    ∙ sym (some_append ps qs) ∙ ap has_some (sym is)

-- ---- changes that are gone over

-- of the changes by all these payloads those before the ones that are left were printed
pub record Going (form : Form) (v : ℕ) (action : Action) (a b : WriterState) (any : Bool)
    (all left : List Payload) : Type 0 where
  pub changes : List Change
  pub done : Done form v a b any changes
  pub rest : map (change_by action) all ≡ changes ++ map (change_by action) left

pub going_begins : (form : Form) (v : ℕ) (action : Action) (a : WriterState)
    (all left : List Payload) → left ≡ all → Going form v action a a false all left
going_begins form v action a all left is = record {
  changes = [];
  done = done_none form v a;
  rest = ap (map (change_by action)) (sym is);
}

pub going_on : (form : Form) (v : ℕ) (action : Action) (a b d : WriterState) (any : Bool)
    (all ps qs : List Payload) (p : Payload) → Going form v action a b any all ps →
    ps ≡ p ∷ qs → Wrote b d (change_piece form v (change_by action p)) →
    Going form v action a d true all qs
going_on form v action a b d any all ps qs p g is put = record {
  changes = g.changes ++ change_by action p ∷ [];
  done = done_more form v a b d any g.changes _ (change_by action p) refl g.done put;
  rest = g.rest ∙ ap (λ l. g.changes ++ map (change_by action) l) is
      ∙ sym (append_assoc g.changes (change_by action p ∷ []) (map (change_by action) qs));
}

pub going_stops : (form : Form) (v : ℕ) (action : Action) (a b d : WriterState) (any : Bool)
    (all ps qs : List Payload) (p : Payload) (f : Fault) → Going form v action a b any all ps →
    ps ≡ p ∷ qs → Puts {T = Unit {0}} (Err f) b d (change_piece form v (change_by action p)) →
    Puts {T = Bool} (Err f) a d (change_pieces form v (map (change_by action) all))
going_stops form v action a b d any all ps qs p f g is put =
    done_stops form v a b d any f g.changes (map (change_by action) qs) _ (change_by action p)
    (g.rest ∙ ap (λ l. g.changes ++ map (change_by action) l) is) g.done put

pub going_starves : (form : Form) (v : ℕ) (action : Action) (a b : WriterState) (any : Bool)
    (all ps : List Payload) → Going form v action a b any all ps →
    Puts {T = Bool} (Err faults.Memory) a b (change_pieces form v (map (change_by action) all))
going_starves form v action a b any all ps g =
    done_starves form v a b any g.changes (map (change_by action) ps) _ g.rest g.done

pub going_ends : (form : Form) (v : ℕ) (action : Action) (a b : WriterState) (any : Bool)
    (all ps : List Payload) → Going form v action a b any all ps → ps ≡ [] →
    Done form v a b any (map (change_by action) all)
going_ends form v action a b any all ps g is =
    done_same form v a b any g.changes _
    (g.rest ∙ ap (λ l. g.changes ++ map (change_by action) l) is ∙ append-nil g.changes) g.done
