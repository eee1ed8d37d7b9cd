-- Units without a payload, as they are written.
use Rattle.std.proofs.Common.{◌≡◌, inl, inr, ℕ, ◌^◌, ◌<◌, [], ◌++◌, Some}
use Rattle.std.proofs.Common.{refl, subst, arith, append-nil}
use Rattle.rtr_base.specs.Bytes.{be, IsBytes}
use Rattle.rtr_base.proofs.Numbers.{IsBytes-be}
use Rattle.rtr_units.specs.Queries.{bare_list, serial_list}
use Rattle.rtr_units.proofs.Headers.{header_bytes}
use Rattle.unit_any.specs.AnyFields.{AnyFields, HasAnyFields, serial_notify, serial_query}
use Rattle.unit_any.specs.AnyFields.{reset_query, cache_response, cache_reset}
use Rattle.unit_any.specs.PrivateHeaders.{IsPlainType}
use Rattle.unit_any.proofs.Forms.{plain_shown}
use Rattle.unit_any.proofs.Wholes.{any_whole}
use Rattle.rtr_c.proofs.Made.{Made, no_piece}
use Rattle.rtr_c.specs.ShownUnits.{serial_shown, bare_shown, CallShows}
use Rattle.rtr_c.specs.declared.unit.RtrUnit.{RtrUnit}

serial_bytes : (v k s q : ℕ) → v < 256 → k < 256 → IsBytes (serial_list v k s q)
serial_bytes v k s q hv hk = header_bytes v k s 12 (be q 4) hv hk (IsBytes-be q 4)

bare_bytes : (v k s : ℕ) → v < 256 → k < 256 → IsBytes (bare_list v k s)
bare_bytes v k s hv hk =
    subst IsBytes (append-nil (bare_list v k s)) (header_bytes v k s 8 [] hv hk (IsBytes-be 0 0))

serial_made : (k v s q : ℕ) (f : AnyFields) → HasAnyFields (serial_list v k s q) f →
    IsPlainType k → CallShows (serial_list v k s q) f (serial_shown k 12 v s q) →
    ((u : RtrUnit) → CallShows (serial_list v k s q) f u → u ≡ serial_shown k 12 v s q) →
    Made (serial_list v k s q) (serial_shown k 12 v s q) (Some []) (Some [])
serial_made k v s q f has plain shows shown = record {
  fields = f;
  unit = has;
  shows = shows;
  shown = shown;
  sound = λ r. plain_shown (serial_list v k s q) r (any_whole _ f has) plain;
  part = λ r. no_piece (serial_list v k s q ++ r);
  text = λ r. no_piece (serial_list v k s q ++ r);
}

bare_made : (k v s t : ℕ) (f : AnyFields) → HasAnyFields (bare_list v k s) f →
    IsPlainType k → CallShows (bare_list v k s) f (bare_shown k 8 v t) →
    ((u : RtrUnit) → CallShows (bare_list v k s) f u → u ≡ bare_shown k 8 v t) →
    Made (bare_list v k s) (bare_shown k 8 v t) (Some []) (Some [])
bare_made k v s t f has plain shows shown = record {
  fields = f;
  unit = has;
  shows = shows;
  shown = shown;
  sound = λ r. plain_shown (bare_list v k s) r (any_whole _ f has) plain;
  part = λ r. no_piece (bare_list v k s ++ r);
  text = λ r. no_piece (bare_list v k s ++ r);
}

module _ (v s : ℕ) (hv : v < 256) (hs : s < 2 ^ 16) where
  pub notify_made : (q : ℕ) → q < 2 ^ 32 →
      Made (serial_list v 0 s q) (serial_shown 0 12 v s q) (Some []) (Some [])
  notify_made q hq =
      serial_made 0 v s q (serial_notify v s q) (record {
        fits = (hs, hq);
        bytes = refl;
        are_bytes = serial_bytes v 0 s q hv (omega arith);
      }) (inl (inl refl)) refl (λ u is. is)

  pub query_made : (q : ℕ) → q < 2 ^ 32 →
      Made (serial_list v 1 s q) (serial_shown 1 12 v s q) (Some []) (Some [])
  query_made q hq =
      serial_made 1 v s q (serial_query v s q) (record {
        fits = (hs, hq);
        bytes = refl;
        are_bytes = serial_bytes v 1 s q hv (omega arith);
      }) (inl (inr refl)) refl (λ u is. is)

  pub response_made : Made (bare_list v 3 s) (bare_shown 3 8 v s) (Some []) (Some [])
  response_made =
      bare_made 3 v s s (cache_response v s) (record {
        fits = hs;
        bytes = refl;
        are_bytes = bare_bytes v 3 s hv (omega arith);
      }) (inr (inl (inr (inl refl)))) refl (λ u is. is)

pub reset_query_made : (v : ℕ) → v < 256 →
    Made (bare_list v 2 0) (bare_shown 2 8 v 0) (Some []) (Some [])
reset_query_made v hv =
    bare_made 2 v 0 0 (reset_query v 0) (record {
      fits = omega arith;
      bytes = refl;
      are_bytes = bare_bytes v 2 0 hv (omega arith);
    }) (inr (inl (inl refl))) refl (λ u is. is)

pub cache_reset_made : (v : ℕ) → v < 256 →
    Made (bare_list v 8 0) (bare_shown 8 8 v 0) (Some []) (Some [])
cache_reset_made v hv =
    bare_made 8 v 0 0 (cache_reset v 0) (record {
      fits = omega arith;
      bytes = refl;
      are_bytes = bare_bytes v 8 0 hv (omega arith);
    }) (inr (inl (inr (inr refl)))) refl (λ u is. is)
