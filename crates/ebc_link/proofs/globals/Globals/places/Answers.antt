use Rattle.ebc_link.proofs.Common.{drop_all, ◌≡◌, ◌+◌, ◌++◌, List, [], ◌∷◌, ap, arith, drop, get_or, map, subst, sym, take, ◌∙◌, find}
use Rattle.ebc_link.proofs.Common.{option_map}
use Rattle.ebc_link.proofs.Common.{take_all, err_from_is_err_and, Symbol, laid_with, Fails, Undefined, unless_some, first_in, is_undefined}
use Rattle.ebc_link.proofs.Common.{places_of, symbol_place, undefined_in, defined}
use Rattle.std.proofs.lemmas.List.{map_push}
use Rattle.ebc_link.proofs.LaidLaws.{IsAt, at_number, laid_at, laid_more, laid_taken, length-laid, no_home}
use Rattle.ebc_link.proofs.{EndLaws.fails_as, EndLaws.none_where_ok, FirstLaws.first_here, FirstLaws.first_more}
use Rattle.ebc_link.proofs.globals.Globals.places.Goals as goal

pub returns-in_err-symbol_places-clause-undefined : goal.returns-in_err-symbol_places-clause-undefined
returns-in_err-symbol_places-clause-undefined c =
    let p = err_from_is_err_and c.from_residual-in_err-symbol_places.result c.from_residual-in_err-symbol_places.ensures.1 in
    let ds = defined c.args.self.now in
    let i = c.loop-number.number in
    let os = c.args.objects.now in
    let hs = c.args.homes.now in
    let ls = laid_with os hs in
    let o = c.index-objects-number.result in
    let h = get_or hs i no_home in
    let e = c.in_err-symbol_places.field-0.0 in
    let at : IsAt os hs i o h = at_number os hs i o no_home c.loop-number-test.true c.requires.homes c.index-objects-number.is in
    rw (p.1, p.2)
    (fails_as Undefined e (undefined_in ds (laid_at o h)) (first_in (undefined_in ds) ls)
    (λ x some. first_here (undefined_in ds) ls (drop (i + 1) ls) i (laid_at o h) x (laid_more os hs i o h at) some
    c.loop-number.invariant.first)
    (subst (λ ss. Fails e (unless_some Undefined (option_map (λ (s : Symbol). s.name) (find (is_undefined ds) ss)))) c.as_slice.ensures
    c.in_err-symbol_places.ensures.undefined))

pub loop-number-preserved : goal.loop-number-preserved
unfolding places_of
loop-number-preserved c =
    let ds = defined c.args.self.now in
    let i = c.loop-number.number in
    let os = c.args.objects.now in
    let hs = c.args.homes.now in
    let ls = laid_with os hs in
    let o = c.index-objects-number.result in
    let h = get_or hs i no_home in
    let at : IsAt os hs i o h = at_number os hs i o no_home c.loop-number-test.true c.requires.homes c.index-objects-number.is in
    let named = λ (ss : List Symbol). option_map (λ (s : Symbol). s.name) (find (is_undefined ds) ss) in
    let none = none_where_ok Undefined (named c.as_slice.result.now) c.in_ok-symbol_places.ensures.undefined in
    record {
      first = first_more (undefined_in ds) ls (drop (i + 1) ls) i (laid_at o h) (laid_more os hs i o h at)
          (ap named (sym c.as_slice.ensures) ∙ none) c.loop-number.invariant.first;
      places = c.in_ok-push.ensures.items
          ∙ (ap (λ ps. ps ++ c.in_ok-symbol_places.field-0 ∷ []) c.loop-number.invariant.places
          ∙ (ap (λ p. map (places_of ds) (take i ls) ++ p ∷ [])
          (c.in_ok-symbol_places.ensures.places ∙ ap (map (symbol_place ds h)) c.as_slice.ensures)
          ∙ (sym (map_push (places_of ds) (take i ls) (laid_at o h)) ∙ ap (map (places_of ds)) (sym (laid_taken os hs i o h at)))));
    }

pub returns-clause-undefined : goal.returns-clause-undefined
unfolding first_in
returns-clause-undefined c =
    let ls = laid_with c.args.objects.now c.args.homes.now in
    let long = length-laid c.args.objects.now c.args.homes.now c.requires.homes in
    let none = drop_all c.loop-number.number ls (omega (arith, long, c.loop-number-test.false)) in
    ap (unless_some Undefined) (sym (rw none at c.loop-number.invariant.first))

pub returns-clause-places : goal.returns-clause-places
returns-clause-places c =
    let ls = laid_with c.args.objects.now c.args.homes.now in
    let long = length-laid c.args.objects.now c.args.homes.now c.requires.homes in
    let whole : take c.loop-number.number ls ≡ ls = take_all c.loop-number.number ls (omega (arith, long, c.loop-number-test.false)) in
    c.loop-number.invariant.places ∙ ap (map (places_of (defined c.args.self.now))) whole
