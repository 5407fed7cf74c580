-- The names that several proofs of this crate cite, passed on from one place. Declares nothing.
pub use Rattle.std.specs.{Int.to_le_bytes, List.Contains, List.find, List.filter, List.flat_map, List.list_any, Option.option_map_or}
pub use Rattle.std.specs.Option.{option_or, is_some, option_map}
pub use Rattle.std.proofs.Common.{◌≡◌, Bool, true, false, cond, List, ℕ, [], ◌∷◌, ◌++◌, Some, None, refl, sym, ap, ◌∙◌, append_assoc}
pub use Rattle.std.proofs.Common.{append-nil, ◌-◌, ◌^◌, ◌<◌, ◌≤◌, length, map, Option, Result, Ok, Err, ap₂, subst, arith, All, AllPairs}
pub use Rattle.std.proofs.Common.{suc, ◌+◌, inl, ⊎_elim, ◌&&◌, drop, get_or, length-append, codes, nat_le, nat_lt, take, nat_eq, w64}
pub use Rattle.std.proofs.Common.{eqb-true, get_or-take, zero, ◌%◌, bytes_eq, not, slice_get, ◌*◌, inr, ℤ, pos, drop_of_length-le, leb-true}
pub use Rattle.std.proofs.lemmas.List.{length-map, drop_all, get_or-append_right, get_or_append_left, map-append, drop_more, get_or-map}
pub use Rattle.std.proofs.lemmas.List.Elements.{All-map, All-contains_itself, All-weaker}
pub use Rattle.std.proofs.lemmas.List.Elements.{All-head, All-tail, All-filter, filter_passes, All-contains, Contains-append_cases}
pub use Rattle.std.proofs.lemmas.List.Elements.{Contains-append_left, Contains-append_right, All-push, All-append, All-cons, All-nil}
pub use Rattle.std.proofs.{Common.◌≢◌, Common.take_all, Common.rules, lemmas.Bool.and_parts, lemmas.Bool.cases_lt, lemmas.Bool.eqb-false}
pub use Rattle.std.proofs.lemmas.{Bool.cond_both, Bool.not-false, Bool.not-true, Bool.Decides.nat_tests, List.get_or_default}
pub use Rattle.std.proofs.lemmas.{List.Kept.AllPairs-filter, Result.err_from_is_err_and}
pub use Rattle.ebc_base.specs.{Steps.◌>>=◌, Steps.or_else, Tables.is_named}
pub use Rattle.ebc_width.specs.Width.{wrap64, signed_at}
pub use Rattle.ebc_object.specs.Objects.{IsObject, IsFixup, section_bytes, width, EndsBefore}
pub use Rattle.ebc_object.specs.declared.object.{Fixup.Fixup, Object.Object, Symbol.Symbol}
pub use Rattle.pe_image.specs.{Conditions.most, Files.rounded, Files.zeros, Images.IsBelow, Linked.section_if, Linked.text_sections}
pub use Rattle.pe_image.specs.declared.image.{Image.Image, Section.Section}
pub use Rattle.ebc_link.specs.Fixups.{contents_of, far_in, filled_section, in_section, holds_signed, is_address, place_of, relocs_in}
pub use Rattle.ebc_link.specs.Symbols.{Definition, names_of, undefined_in, is_definition, definition_in, definitions_in, definitions_of}
pub use Rattle.ebc_link.specs.Links.{Entry, Fails, Far, Fault, Size, Twice, Undefined, entry_in, unless_some, is_entry}
pub use Rattle.ebc_link.specs.{Fixups.target_of, Layout.Laid, Layout.code_start, Layout.laid_with, Layout.start_of, Layout.place_in}
pub use Rattle.ebc_link.specs.Linked.{IsEntry, StandsAt, own_bytes, StandsAt.other, StandsAt.own}
pub use Rattle.ebc_link.specs.{PlanTexts.some_text, Plans.IsPlan, Symbols.is_undefined, Symbols.symbol_place, Walks.ArePacked}
pub use Rattle.ebc_link.specs.Walks.{IsResolved, defined_in, laid_in, IsLow, laid_of, defined, IsPaired}
pub use Rattle.ebc_link.specs.declared.{end.LinkEnd.LinkEnd, layout.Home.Home, plan.LinkPlan.LinkPlan, resolved.Resolved.Resolved}
unfoldable pub use Rattle.ebc_width.specs.Bytes.{overlaid, little_endian}
unfoldable pub use Rattle.pe_image.specs.{Files.next_place, Linked.linked_sections, Mapped.laid}
unfoldable pub use Rattle.ebc_link.specs.Fixups.{relocs_of, put_at, with_fixups, bytes_for, value_of, is_near}
unfoldable pub use Rattle.ebc_link.specs.Layout.{contents_start, homes_of, laid_objects, section_from, homes_from, code_end, contents_end}
unfoldable pub use Rattle.ebc_link.specs.{Links.links, Symbols.first_again, Symbols.definitions, Symbols.first_in, Symbols.places_of}
