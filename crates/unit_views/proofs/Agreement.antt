-- Views and units of the same bytes mean the same.
use Rattle.std.proofs.Common.{◌≡◌, ◌≢◌, ℕ, List, Option, Some, None}
use Rattle.std.proofs.Common.{arith, refl, sym, ap, subst, ◌∙◌}
use Rattle.rtr_base.specs.Actions.{act}
use Rattle.rtr_base.specs.Addresses.{Family, v4, v6}
use Rattle.rtr_base.specs.declared.timing.Timing.{Timing}
use Rattle.rtr_units.specs.End.{EndMeaning, IsEnd, timed_list}
use Rattle.rtr_units.specs.Header.{type_field}
use Rattle.rtr_units.specs.AnyEnd.{end_meaning}
use Rattle.rtr_payload.specs.Payloads.{Meaning}
use Rattle.rtr_units.specs.PrefixUnits.{prefix_type, prefix_at}
use Rattle.rtr_payload.specs.KeyUnits.{key_at}
use Rattle.rtr_payload.specs.AspaUnits.{aspa_at}
use Rattle.rtr_payload.specs.UnitFields.{Fields, prefix_unit, key_unit, aspa_unit, HasFields}
use Rattle.rtr_payload.specs.UnitFields.{LengthsAgree, meaning, unit_list}
use Rattle.rtr_payload.specs.Units.{IsUnit, form_of}
use Rattle.rtr_payload.specs.Meanings.{origin_of}
use Rattle.rtr_payload.proofs.ByFields.{unit_fields_of, unit_of_fields}
use Rattle.rtr_payload.proofs.Fields.{lists_same}
use Rattle.unit_views.specs.Origins.{IsOriginOf, origin_meaning}
use Rattle.unit_views.specs.Views.{IsViewOf, ViewMeans, view_form}
use Rattle.unit_views.specs.declared.origin.OriginView.{OriginView}
use Rattle.unit_views.specs.declared.view.UnitView.{UnitView}
use Rattle.unit_views.specs.declared.view.UnitView.TheVariants as views

-- no list has both the shape of a unit and that of an end of data
fields_type : (u : Fields) → type_field (unit_list u) ≢ 7
fields_type (prefix_unit u) h = by_family u.origin.family h
  where
    by_family : (f : Family) → prefix_type f ≢ 7
    by_family v4 e = omega arith
    by_family v6 e = omega arith
fields_type (key_unit u) h = omega arith
fields_type (aspa_unit u) h = omega arith

pub timed_type : (v s q : ℕ) (t : Option Timing) → type_field (timed_list v s q t) ≡ 7
timed_type v s q None = refl
timed_type v s q (Some t) = refl

shape_or_end : (b : List ℕ) (u : Fields) (e : EndMeaning) → HasFields b u → IsEnd b e → ⊥
shape_or_end b u e h end =
    fields_type u
    (ap type_field (sym h.bytes ∙ end.bytes) ∙ timed_type e.version e.session e.serial e.timing)

-- the fields of a list of bytes are one
one_fields : (b : List ℕ) (u w : Fields) → HasFields b u → HasFields b w → u ≡ w
one_fields b u w h j = lists_same u w h.fits j.fits (sym h.bytes ∙ j.bytes)

origin_means : (f : Family) (v : OriginView) (b : List ℕ) → IsOriginOf f v b →
    origin_meaning v ≡ meaning (prefix_unit (prefix_at f b))
origin_means f v b h = λ i.
    record {
      version = h.shows.0 i;
      action = act (h.shows.1 i);
      payload = origin_of (record {
        prefix = record { prefix = h.shows.2 i; max_len = h.shows.3 i };
        asn = h.shows.4 i;
      });
    }

-- the fields that a view shows
record Shown (v : UnitView) (b : List ℕ) : Type 0 where
  fields : Fields
  shape : HasFields b fields
  lengths : LengthsAgree fields
  means : (m : Meaning) → ViewMeans v m → m ≡ meaning fields
  meant : ViewMeans v (meaning fields)

of_origin : (f : Family) (v : OriginView) (b : List ℕ) → IsOriginOf f v b → Shown (views.Origin v) b
of_origin f v b h = record {
  fields = prefix_unit (prefix_at f b);
  shape = h.shape;
  lengths = h.lengths;
  means = λ m is. is ∙ origin_means f v b h;
  meant = sym (origin_means f v b h);
}

no_end : (v : UnitView) (b : List ℕ) (u : Fields) → HasFields b u → IsViewOf v b → Shown v b
no_end (views.Origin v) b u h (f, is) = of_origin f v b is
no_end (views.RouterKey v) b u h (is, shape) = record {
  fields = key_unit (key_at b);
  shape = shape;
  lengths = tt;
  means = λ m e. e ∙ ap (λ l. meaning (key_unit (key_at l))) is;
  meant = ap (λ l. meaning (key_unit (key_at l))) (sym is);
}
no_end (views.Aspa v) b u h (is, shape) = record {
  fields = aspa_unit (aspa_at b);
  shape = shape;
  lengths = tt;
  means = λ m e. e ∙ ap (λ l. meaning (aspa_unit (aspa_at l))) is;
  meant = ap (λ l. meaning (aspa_unit (aspa_at l))) (sym is);
}
no_end (views.End e) b u h (is, end) = absurd (shape_or_end b u (end_meaning e) h end)

pub view_means : (v : UnitView) (b : List ℕ) (m : Meaning) → IsViewOf v b → ViewMeans v m →
    IsUnit b m
view_means (views.Origin v) b m (f, is) e = unit_of_fields b m (record {
  fields = prefix_unit (prefix_at f b);
  shape = is.shape;
  lengths = is.lengths;
  means = e ∙ origin_means f v b is;
})
view_means (views.RouterKey v) b m (is, shape) e = unit_of_fields b m (record {
  fields = key_unit (key_at b);
  shape = shape;
  lengths = tt;
  means = e ∙ ap (λ l. meaning (key_unit (key_at l))) is;
})
view_means (views.Aspa v) b m (is, shape) e = unit_of_fields b m (record {
  fields = aspa_unit (aspa_at b);
  shape = shape;
  lengths = tt;
  means = e ∙ ap (λ l. meaning (aspa_unit (aspa_at l))) is;
})
view_means (views.End d) b m is e = absurd e

pub view_and_fields : (v : UnitView) (b : List ℕ) (u : Fields) → IsViewOf v b → HasFields b u →
    LengthsAgree u × ViewMeans v (meaning u)
view_and_fields v b u is h =
    let s = no_end v b u h is in
    let same = one_fields b s.fields u s.shape h in
    (subst LengthsAgree same s.lengths, subst (λ w. ViewMeans v (meaning w)) same s.meant)

pub view_meant : (v : UnitView) (b : List ℕ) (m : Meaning) → IsViewOf v b → IsUnit b m →
    ViewMeans v m
view_meant v b m is unit =
    let h = unit_fields_of b m unit in
    subst (ViewMeans v) (sym h.means) (view_and_fields v b h.fields is h.shape).1

pub form_meant : (v : UnitView) (m : Meaning) → ViewMeans v m → view_form v ≡ form_of m
form_meant (views.Origin v) m e = ap form_of (sym e)
form_meant (views.RouterKey v) m e = ap form_of (sym e)
form_meant (views.Aspa v) m e = ap form_of (sym e)
form_meant (views.End d) m e = absurd e

pub form_end : (v : UnitView) (b : List ℕ) (e : EndMeaning) → IsViewOf v b → IsEnd b e →
    view_form v ≡ b
form_end (views.Origin v) b e (f, is) end =
    absurd (shape_or_end b (prefix_unit (prefix_at f b)) e is.shape end)
form_end (views.RouterKey v) b e (is, shape) end =
    absurd (shape_or_end b (key_unit (key_at b)) e shape end)
form_end (views.Aspa v) b e (is, shape) end =
    absurd (shape_or_end b (aspa_unit (aspa_at b)) e shape end)
form_end (views.End d) b e (is, end') end = is
