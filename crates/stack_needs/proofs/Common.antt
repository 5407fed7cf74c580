-- The names that several proofs of this crate cite, passed on from one place. Declares nothing.
pub use Rattle.std.proofs.Common.{◌≡◌, ℕ, zero, suc, List, [], ◌∷◌, ◌++◌, length, Some, refl, sym, ap, subst, ◌∙◌, inl, inr, ⊎_elim, arith}
pub use Rattle.std.proofs.{Common.slice_get, Common.ltb-true, lemmas.Option.slice_get_read, lemmas.Result.err_from_is_err_and}
pub use Rattle.stack_needs.specs.{Calls.CallsFunction, Walks.IsStack, Walks.functions_of, Walks.AreCalls, Walks.Sees, Walks.IsReachedPlace}
pub use Rattle.stack_needs.specs.{Ways.HasWay}
pub use Rattle.stack_needs.specs.declared.{depth.Depth.Depth, order.Mark.Mark, order.Mark.TheVariants.Open, walk.Walked.Walked}
