use Rattle.std.proofs.Common.{ℕ, [], sym, ap, ◌∙◌, arith}
use Rattle.rtr_base.proofs.Cuts.{cut_end}
use Rattle.rtr_units.specs.Header.{header, version_field, type_field, session_field}
use Rattle.rtr_units.specs.HeaderBytes.{header_bytes}
use Rattle.rtr_units.proofs.Headers.{header_read}
use Rattle.rtr_wire.proofs.run.known.Goals as goal

pub returns : goal.returns
returns g c =
    let h = header_bytes c.args.header in
    let (size, bytes) = c.version.ensures.header in
    c.new.ensures
    ∙ ap (λ (v : ℕ). header v c.PDU.result c.session.result c.size.result) c.version.ensures.value
    ∙ ap (λ (t : ℕ). header (version_field h) t c.session.result c.size.result)
    (c.PDU.ensures ∙ sym c.requires.kind)
    ∙ ap (λ (s : ℕ). header (version_field h) (type_field h) s c.size.result) c.session.ensures
    ∙ ap (header (version_field h) (type_field h) (session_field h))
    (c.size.ensures ∙ sym c.requires.length)
    ∙ sym (header_read h [] bytes (omega (arith, size)) (cut_end h 8 size))
