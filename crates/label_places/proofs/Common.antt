-- The names that several proofs of this crate cite, passed on from one place. Declares nothing.
pub use Rattle.std.proofs.Common.{◌≡◌, ◌+◌, ◌<◌, ◌≤◌, true, false, cond, List, [], ◌∷◌, length, get_or, map, take, drop, refl, sym, ap, ◌∙◌}
pub use Rattle.std.proofs.Common.{arith, All, leb, filter, ◌&&◌, take_all, ◌++◌, append-nil, append_assoc, rules, subst, option_map}
pub use Rattle.std.proofs.lemmas.List.{get_or_default, map-append, Elements.filter-append}
pub use Rattle.std.proofs.lemmas.List.Sorted.{IsPartitionPoint-from_clause, IsPartitionedBy-leb}
pub use Rattle.ebc_base.specs.Steps.{or_else}
pub use Rattle.ebc_link.specs.Layout.{laid_with}
pub use Rattle.ebc_link.proofs.LaidLaws.{taken, IsAt, at_number, laid_at, length-laid, no_home}
pub use Rattle.label_places.specs.{Indexes.AreByPlace, Indexes.AreByName, Labels.labels_in, Labels.span_of, Views.HasEnd, Views.is_meant_in}
pub use Rattle.label_places.specs.Views.{only_in, the_only}
pub use Rattle.label_places.specs.declared.{label.Label.Label, label.Position.Position, seeking.NotFound.TheVariants.Unknown}
unfoldable pub use Rattle.label_places.specs.Labels.{labels_from}
