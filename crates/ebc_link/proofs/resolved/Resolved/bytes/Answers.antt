use Rattle.ebc_link.proofs.Common.{drop_all, append-nil, ◌≡◌, ℕ, ◌+◌, ◌-◌, ◌++◌, List, drop, length, ap, ap₂, arith, rules, ◌∙◌, zeros}
use Rattle.ebc_link.proofs.Common.{section_bytes, bytes_for}
use Rattle.ebc_link.proofs.Common.{filled_section, in_section, with_fixups, section_from, start_of, defined_in, laid_in, laid_of}
use Rattle.ebc_link.proofs.{BytesLaws.section_more, LaidLaws.length-laid}
use Rattle.ebc_link.proofs.resolved.Resolved.bytes.Goals as goal

pub loop-number-preserved : goal.loop-number-preserved
loop-number-preserved c =
    let r = c.args.self.now in
    let ds = defined_in r in
    let i = c.loop-number.number in
    let p = c.piece-piece.result in
    let section = c.args.section in
    let old = c.loop-number.bytes.items in
    let bytes = filled_section section c.args.base ds in
    let whole = section_from section bytes c.args.start (laid_in r) in
    let long : c.len.result ≡ length old = search rules in
    let gap : c.start.result - (c.args.start + c.len.result) ≡ start_of p.home section - (c.args.start + length old) =
    ap₂ (λ n m. n - (c.args.start + m)) c.start.ensures.start long in
    let filled = λ (ps : List ℕ).
    c.append_zeros.new.bytes.items ++ with_fixups (bytes_for c.args.base ps p.home)
    (section_bytes p.object.now.code p.object.now.contents section) (in_section section p.object.now.fixups) in
    let both =
    section_more section bytes c.args.start (drop i (laid_in r)) (drop (i + 1) (laid_in r)) (laid_of p) old
    c.append_zeros.new.bytes.items c.append_bytes.new.all.items whole c.piece-piece.ensures.laid c.loop-number.invariant.packed
    (c.in_ok-append_zeros.ensures ∙ ap (λ n. old ++ zeros n) gap) (c.in_ok-append_bytes.ensures ∙ ap filled c.piece-piece.ensures.places)
    c.loop-number.invariant.joined in
    record { joined = both.0; packed = both.1 }

pub returns : goal.returns
unfolding section_from
returns c =
    let r = c.args.self.now in
    let long = length-laid r.objects.now r.homes.items c.requires.resolved.homes in
    let none = drop_all c.loop-number.number (laid_in r) (omega (arith, long, c.loop-number-test.false)) in
    rw (none, append-nil) at c.loop-number.invariant.joined
