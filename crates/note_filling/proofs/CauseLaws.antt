-- Why a text isn't filled, by the step that ends it.
use Rattle.note_filling.proofs.Common.{ℕ, List, Option, refl, inl, inr, Result, codes, NotesEnd, TomlFault, Data, Members, get_member}
use Rattle.std.specs.Option.{unwrap_or}
use Rattle.note_filling.proofs.Common.{◌∙◌, ap, string, Some, Fails, of_notes, AreFilledLists, IsAssembled, FillEnd, Lists}
use Rattle.note_filling.specs.{Causes.HasCause, Causes.HasFormFault, Causes.IsKeptInPlace, Causes.forms_of, Originals.AreOrders}
use Rattle.note_filling.specs.Views.{AreArranged, AreOrdered}
use Rattle.note_filling.specs.declared.{end.Flaw.Flaw as Fault, table.Orders.Orders}
use Rattle.note_filling.proofs.{ListLaws.list-kept, OrderLaws.list_order}
use Rattle.note_draft.specs.declared.finding.TableList.TheVariants as lists
use Rattle.note_texts.specs.Outcome as texts
use Rattle.note_types.specs.declared.fault.NotesEnd.TheVariants as notes
use Rattle.note_filling.specs.declared.end.FillEnd.TheVariants as ends

-- a step that ends by the first fault of a label
pub caused_label : (e : FillEnd) (labels : Result (Unit {0}) Fault) (cause : TomlFault → Type 0) → Fails e labels → HasCause labels cause e
caused_label ends.NoMemory labels cause fails = tt
caused_label (ends.Flaw f) labels cause fails = inl fails

-- a text that is filled in its own order
pub kept_in_place : (place : List ℕ → Option ℕ) (name : List ℕ) (old new : Members) (filled : Lists) → AreFilledLists place old filled
    → IsAssembled name filled old new → IsKeptInPlace place old new
kept_in_place place name old new filled are is = record {
  version = is.version;
  entry = λ d there. is.entry ∙ ap (λ o. Some (unwrap_or o (string name))) there;
  statics = list-kept place lists.Static (get_member (codes "static") old) filled.statics (get_member (codes "static") new) are.statics
      is.statics;
  thunk = list-kept place lists.Thunk (get_member (codes "thunk") old) filled.thunks (get_member (codes "thunk") new) are.thunks is.thunks;
  function = list-kept place lists.Function (get_member (codes "function") old) filled.functions (get_member (codes "function") new)
      are.functions is.functions;
  point = list-kept place lists.Point (get_member (codes "point") old) filled.points (get_member (codes "point") new) are.points is.points;
  site = list-kept place lists.Site (get_member (codes "site") old) filled.sites (get_member (codes "site") new) are.sites is.sites;
  rest = is.rest;
}

-- its fault of forms, repeats or names
pub caused_form : (end : NotesEnd) (labels : Result (Unit {0}) Fault) (place : List ℕ → Option ℕ) (old new : Members)
    → IsKeptInPlace place old new → texts.Fails end (forms_of new) → HasCause labels (HasFormFault place old) (of_notes end)
caused_form notes.NoMemory labels place old new kept fails = tt
caused_form (notes.Fault f) labels place old new kept fails = inr (refl, record { new = new; kept = kept; reading = fails })

-- the numbers that functions, points and sites of a filled text had
pub orders_of : (place : List ℕ → Option ℕ) (points sites : List Data) (name : List ℕ) (old new : Members) (filled made : Lists)
    (orders : Orders)
    → AreFilledLists place old filled → AreArranged filled points sites made → AreOrdered filled points sites orders made
    → IsAssembled name made old new
    → AreOrders place points sites orders.functions.items orders.points.items orders.sites.items old new
orders_of place points sites name old new filled made orders are arranged order is = record {
  functions = list_order place lists.Function _ orders.functions.items (get_member (codes "function") old) filled.functions
      made.functions (get_member (codes "function") new) are.functions arranged.functions order.functions is.functions;
  points = list_order place lists.Point points orders.points.items (get_member (codes "point") old) filled.points made.points
      (get_member (codes "point") new) are.points arranged.points order.points is.points;
  sites = list_order place lists.Site sites orders.sites.items (get_member (codes "site") old) filled.sites made.sites
      (get_member (codes "site") new) are.sites arranged.sites order.sites is.sites;
}
