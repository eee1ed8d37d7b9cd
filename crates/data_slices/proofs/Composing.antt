-- Going over places in the order of names, and writing what their changes make of data.
use Rattle.data_slices.specs.AtOffsets.{HaveUnits}
use Rattle.std.proofs.Common.{◌≡◌, ◌≤◌, ℕ, ◌+◌, ◌-◌, true, false, List, [], ◌∷◌, ◌++◌}
use Rattle.std.proofs.Common.{length, Some, None, refl, sym, ap, subst, ◌∙◌}
use Rattle.std.proofs.Common.{append_assoc, append-nil, arith}
use denote.Ref.{Bor}
use borrow.Rule.Slice.PartMut.{put_mid}
use Rattle.rtr_base.specs.declared.action.Action.TheVariants.{Announce}
use Rattle.rtr_payload.specs.Payloads.{Meaning, Payload}
use Rattle.data_memory.specs.Data.{Change}
use Rattle.data_memory.specs.Sequences.{change_of}
use Rattle.data_slices.specs.Canonical.{PlacesFront}
use Rattle.data_slices.specs.Items.{meant}
use Rattle.data_slices.specs.PrivateChanges.{HoldsUnits}
use Rattle.data_slices.specs.PrivateInOrder.{InRow}
use Rattle.data_slices.specs.PrivateMade.{IsFollowed, PlacesBelow, PlacesMade, PlacesName}
use Rattle.data_slices.specs.PrivateMade.{StartsOver, put, put_all, forms_of}
use Rattle.data_slices.specs.PrivateOffsets.{HaveSome, Views}
use Rattle.data_slices.specs.declared.item.PayloadView.{PayloadView}
use Rattle.data_slices.proofs.Copying.{stays_long, forms_of_append}
use Rattle.data_slices.proofs.Deltas.{joined, joined_none, longer}
use Rattle.data_slices.proofs.Going.{Taken, none_left, some_left, taken}
use Rattle.data_slices.proofs.Merging.{Written, more, rest_of}
use Rattle.data_slices.proofs.Putting.{all_above, put_all_after, put_all_again}

-- what is written, and what is left
pub record Composed (v : ℕ) (d : List Payload) (cs : List Change)
    (input rest base_rest before now : List ℕ) (written : ℕ) : Type 0 where
  pub ds : List Change
  pub units : HaveUnits input v rest ds
  pub row : InRow ds
  pub d' : List Payload
  pub held : HoldsUnits Announce v base_rest d'
  pub zs : List Payload
  pub so_far : Written (forms_of v zs) before now written
  pub whole : put_all cs d ≡ zs ++ put_all ds d'

pub record Composing (base input places rest base_rest before now : List ℕ)
    (written : ℕ) : Type 0 where
  pub some : HaveSome input rest
  pub fits : written ≤ length before
  pub room : length now ≡ length before
  pub each : (v : ℕ) (d : List Payload) (cs : List Change) → HoldsUnits Announce v base d →
      HaveUnits input v places cs → InRow cs →
      Composed v d cs input rest base_rest before now written

pub begins : (base input places before : List ℕ) → HaveSome input places →
    Composing base input places places base before before 0
begins base input places before some = record {
  some = some;
  fits = omega arith;
  room = refl;
  each = λ v d cs h j row. record {
    ds = cs;
    units = j;
    row = row;
    d' = d;
    held = h;
    zs = [];
    so_far = record { size = refl; fits = omega arith; output = refl };
    whole = refl;
  };
}

nothing_over : (ys : List Payload) → StartsOver None ys → ys ≡ []
nothing_over [] h = refl
nothing_over (y ∷ ys) h = absurd (h tt)

module _ (base input places rest base_rest before now : List ℕ) (written : ℕ)
    (k : Composing base input places rest base_rest before now written) where
  -- ---- at the end

  module _ (none : rest ≡ []) (part : List ℕ) where
    all_is : (v : ℕ) (d : List Payload) (cs : List Change)
        (g : Composed v d cs input rest base_rest before now written) →
        forms_of v g.zs ++ forms_of v g.d' ≡ forms_of v (put_all cs d)
    all_is v d cs g =
        let no : g.ds ≡ [] =
        none_left input v g.ds (subst (λ l. HaveUnits input v l g.ds) none g.units) in
        sym (ap (forms_of v) (g.whole ∙ ap (λ l. g.zs ++ put_all l g.d') no)
        ∙ forms_of_append v g.zs g.d')

    pub ended : (n : ℕ) (left : Bor (List ℕ)) →
        PlacesBelow (Some (n, left)) None base_rest (rest_of written now) part →
        PlacesMade (Some (written + n)) base input places before
        (put_mid written (length now - written) now part)
    ended n left below v d cs h j row =
        let g = k.each v d cs h j row in
        let (c, over, held) = below v g.d' g.held in
        let is : c.xs ≡ g.d' =
        sym (c.all ∙ ap (λ l. c.xs ++ l) (nothing_over c.ys over) ∙ append-nil c.xs) in
        subst (λ l. PlacesFront (Some (written + n)) l before
        (put_mid written (length now - written) now part)) (all_is v d cs g)
        (joined (forms_of v g.zs) (forms_of v g.d') before now part written n
        (g.so_far.size, g.so_far.fits, g.so_far.output)
        (subst (λ l. PlacesFront (Some n) (forms_of v l) (rest_of written now) part) is c.placed))

    pub full_at_end : PlacesBelow None None base_rest (rest_of written now) part →
        PlacesMade None base input places before
        (put_mid written (length now - written) now part)
    full_at_end below v d cs h j row =
        let g = k.each v d cs h j row in
        let c = below v g.d' g.held in
        subst (λ l. PlacesFront None l before (put_mid written (length now - written) now part))
        (all_is v d cs g)
        (joined_none (forms_of v g.zs) (forms_of v g.d') before now part written
        (g.so_far.size, g.so_far.fits, g.so_far.output)
        (subst (λ l. PlacesFront None l (rest_of written now) part)
        (sym (ap (forms_of v) c.all ∙ forms_of_append v c.xs c.ys))
        (longer (forms_of v c.xs) (forms_of v c.ys) (rest_of written now) part c.placed)))

  -- ---- at a place

  module _ (place : ℕ) (view : PayloadView) (left : List ℕ)
      (takes : (rest ≡ place ∷ left) × Views input place view) where
    abbrev c : Change
    c = change_of (meant view)

    some_there : HaveSome input left
    some_there = some_left input rest place view left takes.0 takes.1 k.some

    module _ (v : ℕ) (d : List Payload) (cs : List Change)
        (g : Composed v d cs input rest base_rest before now written) where
      t : Taken input view left v g.ds
      t = taken input rest place view left v g.ds takes.0 takes.1 g.units

      parts : g.ds ≡ c ∷ t.ds
      parts = t.parts ∙ ap (λ x. x ∷ t.ds) (sym t.is)

      row_left : InRow (c ∷ t.ds)
      row_left = subst InRow parts g.row

      version : (meant view).version ≡ v
      version = ap (λ (m : Meaning). m.version) t.means

      whole : put_all cs d ≡ g.zs ++ put_all t.ds (put c g.d')
      whole = g.whole ∙ ap (λ l. g.zs ++ put_all l g.d') parts

    -- another of the name follows
    pub skips : IsFollowed true view input left →
        Composing base input places left base_rest before now written
    skips followed = record {
      some = some_there;
      fits = k.fits;
      room = k.room;
      each = λ v d cs h j row.
          let g = k.each v d cs h j row in
          let s = t v d cs g in
          record {
            ds = s.ds;
            units = s.left;
            row = (row_left v d cs g).1;
            d' = g.d';
            held = g.held;
            zs = g.zs;
            so_far = g.so_far;
            whole =
                whole v d cs g
                ∙ ap (λ l. g.zs ++ l)
                (put_all_again c s.ds g.d' g.held.in_order (sym (followed v s.ds s.left)));
          };
    }

    -- none follows
    module _ (last : IsFollowed false view input left) (part : List ℕ) where
      pub writes : (n : ℕ) (base_left : Bor (List ℕ)) →
          PlacesName (Some (n, base_left)) view base_rest (rest_of written now) part →
          ((n ≤ length (rest_of written now))
          × (length part ≡ length (rest_of written now))) →
          Composing base input places left base_left.now before
          (put_mid written (length now - written) now part) (written + n)
      writes n base_left name (le, long) =
          record {
            some = some_there;
            fits = (room_of n le long).1;
            room = (room_of n le long).0;
            each = λ v d cs h j row.
                let g = k.each v d cs h j row in
                let s = t v d cs g in
                let (p, held) = name v g.d' g.held (version v d cs g) in
                record {
                  ds = s.ds;
                  units = s.left;
                  row = (row_left v d cs g).1;
                  d' = p.ys;
                  held = held;
                  zs = g.zs ++ p.zs;
                  so_far =
                      subst (λ l. Written l before
                      (put_mid written (length now - written) now part) (written + n))
                      (sym (forms_of_append v g.zs p.zs))
                      (more (forms_of v g.zs) before now written g.so_far (forms_of v p.zs) part n
                      p.placed);
                  whole =
                      whole v d cs g
                      ∙ ap (λ l. g.zs ++ l)
                      (ap (put_all s.ds) p.all
                      ∙ put_all_after c.payload s.ds p.zs p.ys p.up_to
                      (all_above c s.ds (row_left v d cs g) (sym (last v s.ds s.left))))
                      ∙ sym (append_assoc g.zs p.zs (put_all s.ds p.ys));
                };
          }
        where
          room_of : (n : ℕ) → n ≤ length (rest_of written now) →
              length part ≡ length (rest_of written now) →
              (length (put_mid written (length now - written) now part) ≡ length before)
              × (written + n ≤ length before)
          room_of n le long = stays_long before now part written n k.fits k.room le long

      pub no_room : PlacesName None view base_rest (rest_of written now) part →
          PlacesMade None base input places before
          (put_mid written (length now - written) now part)
      no_room name v d cs h j row =
          let g = k.each v d cs h j row in
          let s = t v d cs g in
          let p = name v g.d' g.held (version v d cs g) in
          let is : put_all cs d ≡ (g.zs ++ p.zs) ++ put_all s.ds p.ys =
          whole v d cs g
          ∙ ap (λ l. g.zs ++ l)
          (ap (put_all s.ds) p.all
          ∙ put_all_after c.payload s.ds p.zs p.ys p.up_to
          (all_above c s.ds (row_left v d cs g) (sym (last v s.ds s.left))))
          ∙ sym (append_assoc g.zs p.zs (put_all s.ds p.ys)) in
          subst (λ l. PlacesFront None l before (put_mid written (length now - written) now part))
          (sym (ap (forms_of v) is ∙ forms_of_append v (g.zs ++ p.zs) (put_all s.ds p.ys)
          ∙ ap (λ l. l ++ forms_of v (put_all s.ds p.ys)) (forms_of_append v g.zs p.zs)))
          (longer (forms_of v g.zs ++ forms_of v p.zs) (forms_of v (put_all s.ds p.ys)) before
          (put_mid written (length now - written) now part)
          (joined_none (forms_of v g.zs) (forms_of v p.zs) before now part written
          (g.so_far.size, g.so_far.fits, g.so_far.output) p.placed))
