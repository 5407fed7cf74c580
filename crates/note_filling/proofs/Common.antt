-- The names that several proofs of this crate cite, passed on from one place. Declares nothing.
pub use Rattle.std.specs.Option.{option_and_then}
pub use Rattle.std.proofs.Common.{ℕ, List, Option, refl, inl, inr, Result, codes, ◌≡◌, ap, ◌∙◌, Ok, ◌<◌, ◌≤◌, Bool, true, false, [], ◌∷◌}
pub use Rattle.std.proofs.Common.{◌++◌, length, get_or, arith, ◌+◌, map, take, drop, Some, None, Vec, Global, sym, subst, Err, bytes_eq}
pub use Rattle.std.proofs.{Common.All, lemmas.List.map-append, lemmas.Result.err_from_is_err_and, lemmas.Slice.Eq.bytes_eq-Decides}
pub use Rattle.toml.specs.Data.{Data, Members, get_member, depth, items_depth, members_depth, array, string, integer, float, boolean}
pub use Rattle.toml.specs.{Data.datetime, Data.table, Data.as_str, View.items_view, View.members_view, View.view, View.table_view}
pub use Rattle.toml.specs.declared.value.Value.{Value}
pub use Rattle.toml.proofs.Views.{Entry}
pub use Rattle.ebc_base.specs.Steps.{◌>>=◌}
pub use Rattle.note_types.specs.declared.fault.{NotesEnd.NotesEnd, TomlFault.TomlFault}
pub use Rattle.note_draft.specs.Findings.{path_of}
pub use Rattle.note_draft.specs.declared.finding.TableList.{TableList}
pub use Rattle.note_filling.specs.Views.{AreFilledLists, IsAssembled, IsArranged, IsFilledList, list_or_old, StoodAmong, IsReplaced}
pub use Rattle.note_filling.specs.Views.{context_place}
pub use Rattle.note_filling.specs.{Ends.Fails, Ends.of_notes, Kept.AreKept, Kept.IsPlacedAs, Members.IsExtended, Members.put_missing_member}
pub use Rattle.note_filling.specs.{Members.text_at_key, Places.labelled_place, Views.context_labels, Views.context_names}
pub use Rattle.note_filling.specs.declared.{end.FillEnd.FillEnd, order.Ranked.Ranked, table.Lists.Lists}
unfoldable pub use Rattle.note_filling.specs.{Members.put_member, Rows.items_labels}
