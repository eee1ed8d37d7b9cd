-- The text of a prefix's address.
use Rattle.std.proofs.Common.{◌≡◌, ℕ, ◌+◌, ◌*◌, ◌/◌, ◌%◌, List, [], ◌∷◌, ◌++◌, decimal, refl}
use Rattle.std.proofs.Common.{append_assoc, sym, ap, ◌∙◌, arith}
use Rattle.std.specs.declared.net.ip_addr.IpAddr.{IpAddr}
use Rattle.std.specs.declared.net.ip_addr.IpAddr.TheVariants.{V4, V6}
use Rattle.std.specs.Net.Addr.{octets_of, segments_of, ipv6_segments}
use Rattle.std.specs.Net.Text.{ip_text, ipv4_text, ipv6_text}
use Rattle.rtr_base.specs.Addresses.{PrefixParts, IsAddressOf}
use Rattle.rtr_base.specs.PlainTexts.{address_text, prefix_text}

segments_of-octets_of : (xs : List ℕ) → segments_of (octets_of xs) ≡ xs
segments_of-octets_of [] = refl
segments_of-octets_of (x ∷ xs) =
    let whole : x / 256 * 256 + x % 256 ≡ x = omega arith in
    λ i. whole i ∷ segments_of-octets_of xs i

-- what is shown of the address
pub shown_address : (p : PrefixParts) (a : IpAddr) → IsAddressOf p a →
    ip_text a ≡ address_text p.family p.address
shown_address p (V4 a) h = ap ipv4_text h.1 ∙ ap (λ f. address_text f p.address) (sym h.0)
shown_address p (V6 a) h =
    ap ipv6_text (sym (segments_of-octets_of (ipv6_segments a)) ∙ ap segments_of h.1)
    ∙ ap (λ f. address_text f p.address) (sym h.0)

-- and of the prefix, piece by piece
pub shown_prefix : (p : PrefixParts) (a : IpAddr) (l : ℕ) → IsAddressOf p a → l ≡ p.len →
    ip_text a ++ (47 ∷ decimal l) ≡ prefix_text p
shown_prefix p a l h e =
    ap (λ t. t ++ (47 ∷ decimal l)) (shown_address p a h)
    ∙ ap (λ n. address_text p.family p.address ++ (47 ∷ decimal n)) e
    ∙ sym (append_assoc (address_text p.family p.address) (47 ∷ []) (decimal p.len))
