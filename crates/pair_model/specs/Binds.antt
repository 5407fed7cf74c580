-- Meaning: which function of image B answers which method of image A, and when a bind agrees with the notes of both.
-- docs/PAIRS.md, "Binds".
use Rattle.std.specs.Prelude.{◌≡◌, ℕ, Bool, true, false, ◌&&◌, List, length, Option, Some, None, nat_eq, nat_le, if◌then◌else◌, slice_get}
use Rattle.std.specs.List.{list_all, find, zip}
use Rattle.std.specs.Option.{option_map, option_map_or, option_and_then}
use Rattle.host_model.specs.HostPlans.{may_enter, signature_method, site_of}
use Rattle.note_types.specs.BelowTests.{is_below, same_kind}
use Rattle.note_types.specs.declared.notes.FnNote.{FnNote}
use Rattle.note_types.specs.declared.notes.Notes.{Notes}
use Rattle.note_types.specs.declared.notes.Param.{Param}
use Rattle.note_types.specs.declared.notes.Signature.{Signature}
use Rattle.note_types.specs.declared.notes.Want.{Want}
use Rattle.note_types.specs.declared.notes.Want.TheVariants as want
use Rattle.note_types.specs.declared.notes.WantParam.{WantParam}
use Rattle.note_types.specs.declared.types.Ty.{Ty}
use Rattle.note_types.specs.declared.types.Ty.TheVariants as ty
use Rattle.pair_model.specs.declared.bind.Bind.{Bind}

-- ---- what is bound

-- the function that is bound to a method
unfoldable pub bound_to : List Bind → (method : ℕ) → Option ℕ
bound_to binds method = option_map (λ (x : Bind). x.function) (find (λ (x : Bind). nat_eq x.method method) binds)

-- A bound call: the signature of A by which it calls, and the function of B that it enters.
pub record BoundCall : Type 0 where
  pub signature : ℕ
  pub function : ℕ

-- the bound call that a call instruction at a place of A is, where the method of its site is bound
unfoldable pub bound_at : List Bind → Notes → (place : ℕ) → Option BoundCall
bound_at binds notes place =
    option_and_then (λ g. option_map (λ f. record { signature = g; function = f }) (bound_to binds (signature_method notes g)))
    (site_of notes place)

-- ---- when a bind agrees

-- what a method takes is what a parameter of a function takes: a number of its range, a handle or a status
abbrev pub takes_alike : Want → Ty → Bool
takes_alike (want.Int lo hi) (ty.Int from to div) = nat_eq div 1 && (nat_le from lo && nat_le hi to)
takes_alike want.Handle ty.Handle = true
takes_alike want.Status (ty.Status grants) = true
takes_alike _ _ = false

-- so it is, in a slot of the same kind
abbrev pub param_agrees : WantParam × Param → Bool
param_agrees p = same_kind p.0.kind p.1.kind && takes_alike p.0.want p.1.ty

-- what a function gives is what a method is to give, if it is to give anything
abbrev pub result_agrees : Option Ty → Ty → Bool
result_agrees None given = true
result_agrees (Some wanted) given = is_below given wanted

-- a signature and a function have as many parameters, which agree one by one, and their results agree
abbrev pub signature_agrees : FnNote → Signature → Bool
signature_agrees f g =
    nat_eq (length g.params) (length f.params) && (list_all param_agrees (zip g.params f.params) && result_agrees g.result f.result)

-- a function agrees with each signature of A by a method
abbrev pub function_agrees : Notes → (method : ℕ) → FnNote → Bool
function_agrees a method f = list_all (λ (g : Signature). if nat_eq g.method method then signature_agrees f g else true) a.signature

-- A bind agrees: the firmware may enter its function, which isn't the entry function, and the function agrees with each signature
-- of A by its method.
unfoldable pub bind_agrees : (a b : Notes) → Bind → Bool
bind_agrees a b x = may_enter b x.function && option_map_or (function_agrees a x.method) (slice_get b.function x.function) false

-- all binds do
abbrev pub AllAgree : (a b : Notes) → List Bind → Type 0
AllAgree a b binds = (k : ℕ) (x : Bind) → slice_get binds k ≡ Some x → bind_agrees a b x ≡ true
