-- `as_slice` shows the bytes that the places lend. Assumes `Logic`.
use mathlib.Core.Path.{◌≡◌, refl, sym, ap, subst, ◌∙◌}
use Prim.Native.Nat.{ℕ, ◌*◌, ◌<◌, ◌^◌}
use native.Mathlib.Omega.{arith}
use mathlib.Core.List.{List, [], ◌∷◌, ◌++◌}
use seplogic.Ra.Ura.{Ura}
use base.Fraction.{full_share}
use mir.Syntax.{Fn, named, w64}
use mir.Val.{Val, vptr, vint}
use base.Logic.{SProp, ent, never, id⊢}
use base.Fml.{Lft, Share, ftrue, fat, flft}
use prog.Wp.{Env, Calls, Loops, WpFn, Tables}
use types.Logic.{Logic}
use contract.Monad.{fact}
use contract.Running.{tables, tables_of}
use sound.WpLaws.{WpFn-mono}
use types.Kit.{Item, ⋆, ‵, ◌⊛◌, at_ret, ◌$◌, ◌∵◌, !, qed, by, move, keep, drop, use1, split, join, rewrite, fsplit, fjoin, feq_i, feq_l}
use types.Kit.{flt_l, flt_i, suffices, frame, done}
use types.Part.{whole, sub, agg}
use types.Run.{stop, fld, of_opd, and_then, no_more, first, blocks, exec, returns, enter}
use types.ByLocal.{alloc_all, pass_all, free_all, look_at, get, get_in, sets, sets_last, env, take_at, give_at}
use denote.Exit.{yes}
use denote.RattleType.{owns}
use denote.Memory.{hidden_shr}
use denote.Param.{layout}
use denote.RawPtr.{Ptr, in_a_block}
use denote.Ref.{Bor, ShrRef}
use denote.Builtin.{u8, usize, RefOf, SliceRefOf}
use denote.Signature.{plain}
use denote.Opens.{hide, unhide}
use denote.Slice.{ShrSlice, slice_val, elements_shared}
use denote.Steps.{nothing}
use denote.Triple.Clauses.{Clauses, Ended, closing}
use denote.Triple.Entry.{on_entry}
use denote.Triple.Spec.{Meets, triple_of}
use denote.Triple.Table.{entered}
use denote.Triple.Walked.{says, needs, Stays, stay_dropped, walk_of, ends_at, Goes-dropped, walk_Meets}
use lib.ListN.{length}
use Rattle.std.specs.Prelude.{Option}
use Rattle.std_alloc.proofs.VecSteps.Shapes.{after}
use Rattle.std_alloc.proofs.RcSteps.{word, word-Good}
use Rattle.raw_region.specs.Slots.{written_bytes, AllWritten}
use Rattle.raw_region.specs.Ownership.{cells_shares, slots_lent}
use Rattle.raw_region.proofs.Memory.{Cr, Bs, word_had, all_seen}
use Rattle.raw_region.proofs.Slots.{length-written_bytes}
use Rattle.raw_region.specs.contracts.parts.Cells.as_slice.Key.{name as #self}
use Rattle.raw_region.proofs.parts.Cells.as_slice.Statement as stated
use Rattle.raw_region.proofs.parts.Cells.as_slice.Code as code

abbrev function : Fn
function = code.function

abbrev ended : Ended
ended = record {
  signature = record {
    lifetimes = 1;
    outlives = [];
    params = RefOf (0 ∷ []) tt (plain (λ _. Cr)) (λ _. tt) ∷ plain (λ _. Bs) ∷ plain (λ _. usize) ∷ [];
    result = SliceRefOf (0 ∷ []) tt (plain (λ _. u8)) (λ _. tt);
  };
  kept = (yes, (yes, (yes, tt)));
}

abbrev stayed : Stays ended.signature.params ended.kept
stayed = (
  stay_dropped (RefOf (0 ∷ []) tt (plain (λ _. Cr)) (λ _. tt)) yes,
  (
    stay_dropped (plain (λ _. Bs)) yes,
    (stay_dropped (plain (λ _. usize)) yes, tt),
  ),
)

abbrev Asks : Cr.Denot → Bs.Denot → (usize).Denot → Type 0
Asks d base len = (base.ptr ≡ d.at) × (length d.slots ≡ len) × AllWritten d.slots

abbrev Answers : Cr.Denot → Bor (List ℕ) → Type 0
Answers d r = r.now ≡ written_bytes d.slots

abbrev spec : {M : Type 1} {𝓤 : Ura M} (𝓛 : Logic 𝓤) → Clauses 𝓤 ended
spec {𝓤 = 𝓤} 𝓛 κs a = record {
  ghost = Unit {0};
  requires = λ _. fact 𝓤 (Asks a.0.now a.1.0 a.1.1.0);
  ensures =
      λ _ r w. fact 𝓤 (Answers a.0.now r);
}

module _ {M : Type 1} {𝓤 : Ura M} (𝓛 : Logic 𝓤) (C : Calls 𝓤 𝓛.H) (Λ : Loops 𝓤 𝓛.H) (κ : Lft) (q : Share) (rb ro : ℕ) (d : Cr.Denot)
    (base : Bs.Denot) (len : (usize).Denot) (us0 us1 us2 : List Val) where
  open 𝓛 use {H, A}

  abbrev self : Bor Cr.Denot
  self = record { ref_ptr = (rb, ro); now = d }

  abbrev bound : (walk_of 𝓛 ended stayed (spec 𝓛)).Ghost
  bound = (((κ, tt), (q, tt), tt, (self, (base, (len, tt))), (us0, (us1, (us2, tt)))), tt)

  abbrev Post : Val → SProp 𝓤
  Post = (walk_of 𝓛 ended stayed (spec 𝓛)).post bound

  exits : (r : (ShrSlice (named 0) κ u8).Denot) (v : Val) → Answers d r
      → ent 𝓤 (⋆ 𝓛 (‵ (flft κ q) ∷ ‵ ((ShrSlice (named 0) κ u8).own_val r (v ∷ [])) ∷ [])) (Post v)
  exits r v answered =
      qed 𝓛 (‵ (flft κ q) ∷ ‵ ((ShrSlice (named 0) κ u8).own_val r (v ∷ [])) ∷ []) ∵
      suffices ! _ (ends_at 𝓛 ended stayed (spec 𝓛) bound v r (tt, (tt, (tt, tt))) (tt, (tt, (tt, tt)))) $ says ! answered $
      nothing ! $ move ! (1 ∷ 0 ∷ []) $ join ! $ frame ! $ nothing ! $ nothing ! $ fjoin ! $ nothing ! $ fjoin ! $ nothing ! $ fjoin ! $
      done !

  abbrev Had : List (Item 𝓤)
  Had = ‵ (hidden_shr Cr κ d rb ro) ∷ ‵ (flft κ q) ∷ []

  walk : Asks d base len → len < 2 ^ 64 → ent 𝓤 (⋆ 𝓛 Had) (WpFn 𝓤 H C Λ function (vptr rb ro ∷ word base.ptr ∷ vint w64 len ∷ []) Post)
  walk asked fits =
      let xs = written_bytes d.slots in let written = asked.2 in
      let long : length xs ≡ len = length-written_bytes d.slots len asked.2 asked.1 in
      qed 𝓛 Had ∵ enter ! C Λ function (vptr rb ro ∷ word base.ptr ∷ vint w64 len ∷ []) _ $
      alloc_all ! (λ l. pass_all ! refl ((tt, tt), (word-Good [] base.ptr, ((tt, record { fits = fits }), tt))) $
      let En : Env 𝓤 H = env function.locals l in
      unhide ! $ fsplit ! $ drop ! $ in_a_block ! d.at (λ p. cells_shares p d.slots κ) (id⊢ 𝓤 (never 𝓤)) (λ b o e. fsplit ! $
      flt_l ! (λ small.
      take_at ! 2 $ rewrite ! 0 (λ (p : Ptr). ‵ (fat full_share (layout Bs) (l 2) 0 (word p))) (asked.0 ∙ e) refl $ give_at ! 2 $ first ! $
      blocks ! $
      rewrite ! 0 (λ (cs : List (Option ℕ)). ‵ (slots_lent b o cs κ)) written refl $
      use1 𝓛 (‵ (elements_shared u8 xs b o κ)) (all_seen 𝓛 b κ xs o) $ hide ! $
      sets_last ! (agg ! (and_then ! (get_in ! (fld ! refl (stop !)) (sub ! 0 refl (whole !))) (and_then ! (get ! refl) (no_more !)))) refl
      (tt, (tt, (record { fits = fits }, tt))) $
      exec ! C Λ En (after 1 function.body) (at_ret En Post) $
      sets ! (of_opd ! (get ! refl)) refl (tt, (tt, (record { fits = fits }, tt))) $
      flt_i ! (length xs * 1) (2 ^ 63) (omega (arith, ap length written)) $ flt_i ! (length xs) (2 ^ 64) (omega arith) $ fjoin ! $
      feq_i ! (List Val) (slice_val (b, o) len ∷ []) (slice_val (b, o) (length xs) ∷ []) (ap (λ k. slice_val (b, o) k ∷ []) (sym long)) $
      fjoin ! $ fjoin ! $
      returns ! (look_at ! 0 refl) $ free_all ! refl $ keep ! (1 ∷ 0 ∷ []) $
      by ! (exits (record { ref_ptr = (b, o); now = xs }) (slice_val (b, o) len) refl))))

  entry : Asks d base len
      → ent 𝓤 (on_entry 𝓛 ended.signature (κ, tt) (q, tt) (self, (base, (len, tt))) (us0, (us1, (us2, tt))))
      (WpFn 𝓤 H C Λ function (us0 ++ (us1 ++ (us2 ++ []))) Post)
  entry asked =
      qed 𝓛 ((‵ (flft κ q) ⊛ ‵ ftrue) ∷ ‵ (owns (ShrRef (named 0) κ Cr ∷ Bs ∷ usize ∷ []) (self, (base, (len, tt)))
      (us0, (us1, (us2, tt)))) ∷ []) ∵
      split ! $ move ! (2 ∷ []) $
      fsplit ! $
      fsplit ! $ feq_l ! (λ e0.
      move ! (1 ∷ []) $
      fsplit ! $
      word_had ! base.ptr us1 (λ e1.
      fsplit ! $
      fsplit ! $ feq_l ! (λ e2. flt_l ! (λ fits.
      keep ! (1 ∷ 2 ∷ []) $
      by ! (subst (λ (ws : List Val × List Val × List Val). ent 𝓤 (⋆ 𝓛 Had) (WpFn 𝓤 H C Λ function (ws.0 ++ (ws.1 ++ (ws.2 ++ []))) Post))
      (λ j. (sym e0 j, sym e1 j, sym e2 j)) (walk asked fits))))))

meets : {M : Type 1} {𝓤 : Ura M} (𝓛 : Logic 𝓤) (𝓣 : Tables 𝓤 𝓛.H)
    → Meets 𝓛 ended.signature (WpFn 𝓤 𝓛.H 𝓣.C 𝓣.Λ function) (closing 𝓛 ended (spec 𝓛))
meets {𝓤 = 𝓤} 𝓛 𝓣 =
    walk_Meets 𝓛 ended stayed (
      Goes-dropped 𝓛 1 (RefOf (0 ∷ []) tt (plain (λ _. Cr)) (λ _. tt)) yes (λ κs x f. refl),
      (Goes-dropped 𝓛 1 (plain (λ _. Bs)) yes (λ κs x f. refl), (Goes-dropped 𝓛 1 (plain (λ _. usize)) yes (λ κs x f. refl), tt)),
    )
    (spec 𝓛) (WpFn 𝓤 𝓛.H 𝓣.C 𝓣.Λ function) (WpFn-mono 𝓤 𝓛.H 𝓛.laws 𝓣 function)
    (λ z. let a = z.0.3 in let vss = z.0.4 in
    needs 𝓤 (Asks a.0.now a.1.0 a.1.1.0) _
    (entry 𝓛 𝓣.C 𝓣.Λ z.0.0.0 z.0.1.0 a.0.ref_ptr.0 a.0.ref_ptr.1 a.0.now a.1.0 a.1.1.0 vss.0 vss.1.0 vss.1.1.0))

pub as_slice_spec : {M : Type 1} → stated.statement M
unfolding tables_of
as_slice_spec 𝓤 𝓛 𝓜 𝓡 wired =
    let 𝓣 : Tables 𝓤 𝓛.H = tables_of 𝓤 𝓛.H 𝓜 (tables 𝓤 𝓛.H 𝓜 𝓡 𝓡.env) in
    entered 𝓤 𝓛.H (triple_of 𝓛 ended.signature (closing 𝓛 ended (spec 𝓛))) 𝓣.C 𝓣.Λ #self function (code.unfolded 𝓤 𝓛.H 𝓜 𝓡 wired)
    (meets 𝓛 𝓣)
