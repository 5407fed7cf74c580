use Rattle.std.specs.Prelude.{IsTrue}
use Rattle.note_types.specs.Records.{Ascends}
use Rattle.note_types.specs.declared.notes.FnNote.{FnNote}
use Rattle.note_types.specs.declared.notes.Point.{Point}
use Rattle.note_types.specs.declared.notes.Site.{Site}
use Rattle.rules_flow.proofs.Rising.{fails_with, same_list}
use Rattle.rules_flow.proofs.placed.places_ascend.Goals as goal

pub returns-then-not-rise : goal.returns-then-not-rise
returns-then-not-rise c =
    let rises = same_list (λ (g : FnNote). g.place) (IsTrue c.rise.result) _ _ c.as_slice.ensures c.rise.ensures in
    fails_with (Ascends c.args.notes.now) _ c.rise.result rises (λ h. h.functions) cc

pub returns-then-not-rise-2 : goal.returns-then-not-rise-2
returns-then-not-rise-2 c =
    let rises = same_list (λ (p : Point). p.place) (IsTrue c.rise-2.result) _ _ c.as_slice-2.ensures c.rise-2.ensures in
    fails_with (Ascends c.args.notes.now) _ c.rise-2.result rises (λ h. h.points) cc

pub returns : goal.returns
returns c =
    let functions = same_list (λ (g : FnNote). g.place) (IsTrue c.rise.result) _ _ c.as_slice.ensures c.rise.ensures in
    let points = same_list (λ (p : Point). p.place) (IsTrue c.rise-2.result) _ _ c.as_slice-2.ensures c.rise-2.ensures in
    let sites = same_list (λ (x : Site). x.place) (IsTrue c.rise-3.result) _ _ c.as_slice-3.ensures c.rise-3.ensures in
    (λ t. record { functions = functions.0 cc; points = points.0 cc; sites = sites.0 t }, λ h. sites.1 h.sites)
