use Rattle.std.proofs.Common.{sym, ap, ◌&&◌, ◌∙◌, rules}
use Rattle.std.proofs.lemmas.Bool.{eq-eqb}
use Rattle.std.proofs.lemmas.Iterator.{YieldsList-from_slice, YieldsList-from_zip}
use Rattle.std.proofs.lemmas.Iterator.Search.{all_from_yields_List}
use Rattle.std.specs.List.{list_all, zip}
use Rattle.host_model.specs.ScriptValues.{fits, fits_each}
use Rattle.host_model.proofs.fitting.fits_each.Goals as goal

pub returns-then-params-values : goal.returns-then-params-values
unfolding fits_each
returns-then-params-values c =
    let params = c.args.params.now in
    let values = c.args.values.now in
    all_from_yields_List {s = c.zip.result} (λ p. fits c.args.made.now p.0.ty p.1) c.all.new.self _ c.all.result c.all.ensures.ran
    (YieldsList-from_zip (YieldsList-from_slice params cc) (YieldsList-from_slice values cc)) (λ x b q k. search rules)
    ∙ ap (λ b. b && list_all (λ p. fits c.args.made.now p.0.ty p.1) (zip params values)) (sym (eq-eqb _ _ c.if-params-values.true))
