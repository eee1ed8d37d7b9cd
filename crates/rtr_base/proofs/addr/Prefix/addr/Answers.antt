use Rattle.std.proofs.Common.{◌≡◌, ◌<◌, ◌^◌, ap, sym, ◌∙◌}
use Rattle.rtr_base.specs.Addresses.{PrefixParts, v4, v6, family_of}
use Rattle.rtr_base.proofs.AddressNumbers.{ipv4_octets-bits, ipv4_bits-be, ipv6_octets-bits}
use Rattle.rtr_base.proofs.AddressNumbers.{ipv6_bits-be}
use Rattle.rtr_base.proofs.addr.Prefix.addr.Goals as goal

pub returns-then-self-clause-octets : goal.returns-then-self-clause-octets
returns-then-self-clause-octets c =
    let family : c.args.self.family ≡ v4 =
    ap (λ (p : PrefixParts). p.family) (sym c.self.view_is) ∙ ap family_of c.if-self.true in
    let address : c.self.inside.bits ≡ c.args.self.address =
    ap (λ (p : PrefixParts). p.address) c.self.view_is in
    (family, rw address at (ipv4_octets-bits _ _ c.from_bits.ensures))

pub returns-then-self-clause-number : goal.returns-then-self-clause-number
returns-then-self-clause-number c =
    let small : c.self.inside.bits < 2 ^ 32 = rw c.if-self.true at c.self.invariant.address in
    let address : c.self.inside.bits ≡ c.args.self.address =
    ap (λ (p : PrefixParts). p.address) c.self.view_is in
    ipv4_bits-be _ _ small (ipv4_octets-bits _ _ c.from_bits.ensures) ∙ address

pub returns-else-self-clause-octets : goal.returns-else-self-clause-octets
returns-else-self-clause-octets c =
    let family : c.args.self.family ≡ v6 =
    ap (λ (p : PrefixParts). p.family) (sym c.self.view_is) ∙ ap family_of c.if-self.false in
    let address : c.self.inside.bits ≡ c.args.self.address =
    ap (λ (p : PrefixParts). p.address) c.self.view_is in
    (family, rw address at (ipv6_octets-bits _ _ c.from_bits-else-self.ensures))

pub returns-else-self-clause-number : goal.returns-else-self-clause-number
returns-else-self-clause-number c =
    let small : c.self.inside.bits < 2 ^ 128 = rw c.if-self.false at c.self.invariant.address in
    let address : c.self.inside.bits ≡ c.args.self.address =
    ap (λ (p : PrefixParts). p.address) c.self.view_is in
    ipv6_bits-be _ _ small (ipv6_octets-bits _ _ c.from_bits-else-self.ensures) ∙ address
