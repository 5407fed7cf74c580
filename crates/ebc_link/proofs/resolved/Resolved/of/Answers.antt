use Rattle.ebc_link.proofs.Common.{◌≡◌, ap, sym, ◌∙◌, length-map, err_from_is_err_and, laid_with, Twice, definitions, first_again, names_of}
use Rattle.ebc_link.proofs.Common.{places_of, length, [], defined}
use Rattle.ebc_link.proofs.{AnswerLaws.laid_by, AnswerLaws.length-homes_of, EndLaws.fails_first, LaidLaws.length-laid}
use Rattle.ebc_link.proofs.resolved.Resolved.of.Goals as goal

pub of-requires-clause-homes : goal.of-requires-clause-homes
of-requires-clause-homes c =
    ap length (c.deref.ensures.value ∙ c.in_ok-homes.ensures.homes) ∙ length-homes_of c.args.objects.now

pub places-requires-clause-homes : goal.places-requires-clause-homes
places-requires-clause-homes c =
    ap length (c.deref-2.ensures.value ∙ c.in_ok-homes.ensures.homes) ∙ length-homes_of c.args.objects.now

pub returns-in_err-globals-clause-resolution : goal.returns-in_err-globals-clause-resolution
returns-in_err-globals-clause-resolution c =
    let p = err_from_is_err_and c.from_residual-in_err-globals.result c.from_residual-in_err-globals.ensures.1 in
    let os = c.args.objects.now in
    let hs = c.deref.result.now in
    rw (p.1, p.2, ← laid_by os hs (c.deref.ensures.value ∙ c.in_ok-homes.ensures.homes))
    (fails_first Twice c.in_err-globals.field-0.0 (first_again [] (names_of (definitions (laid_with os hs)))) _
    c.in_err-globals.ensures.twice)

pub returns-in_err-places-clause-resolution : goal.returns-in_err-places-clause-resolution
returns-in_err-places-clause-resolution c =
    let p = err_from_is_err_and c.from_residual-in_err-places.result c.from_residual-in_err-places.ensures.1 in
    let laid = laid_by c.args.objects.now c.deref-2.result.now (c.deref-2.ensures.value ∙ c.in_ok-homes.ensures.homes) in
    let same = c.deref.ensures.value ∙ sym c.deref-2.ensures.value in
    let once = rw same at c.in_ok-globals.ensures.twice in
    let all = rw same at c.in_ok-globals.ensures.defined in
    rw (p.1, p.2, ← laid, once) (rw all at c.in_err-places.ensures.undefined)

pub returns-clause-resolution : goal.returns-clause-resolution
returns-clause-resolution c =
    let laid = laid_by c.args.objects.now c.deref-2.result.now (c.deref-2.ensures.value ∙ c.in_ok-homes.ensures.homes) in
    let same = c.deref.ensures.value ∙ sym c.deref-2.ensures.value in
    let once = rw same at c.in_ok-globals.ensures.twice in
    let all = rw same at c.in_ok-globals.ensures.defined in
    rw (← laid, once) (rw all at c.in_ok-places.ensures.undefined)

pub returns-clause-definitions : goal.returns-clause-definitions
returns-clause-definitions c =
    c.in_ok-globals.ensures.defined
    ∙ ap definitions (laid_by c.args.objects.now c.deref.result.now (c.deref.ensures.value ∙ c.in_ok-homes.ensures.homes))

pub returns-clause-resolved : goal.returns-clause-resolved
returns-clause-resolved c =
    let os = c.args.objects.now in
    let hs = c.in_ok-homes.homes.items in
    let many : length hs ≡ length os = ap length c.in_ok-homes.ensures.homes ∙ length-homes_of os in
    let places = rw c.deref-2.ensures.value at c.in_ok-places.ensures.places in
    record {
      objects = c.requires.objects;
      few = c.requires.few;
      homes = many;
      count = rw (places, length-map (laid_with os hs) (places_of (defined c.in_ok-globals.globals))) (length-laid os hs many);
      low = c.in_ok-homes.ensures.low;
      stands = c.in_ok-homes.ensures.homes;
      places = places;
    }
