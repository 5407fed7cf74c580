-- A frame that fits a state fits each state above it.
use Rattle.typing_laws.proofs.Common.{ℕ, Bool, List, [], ◌∷◌, sym, ◌∙◌, AllZip, none-some, Item, Notes, State, Registers, StackItem, Pushed}
use Rattle.typing_laws.proofs.Common.{LocalsOf, FunctionFrame, Memory, ItemFits, FitsState}
use Rattle.note_types.specs.States.{ItemBelow, StateBelow}
use Rattle.typing_laws.proofs.{FitsBelow.fits_below, Views.view_at}

module _ (notes : Notes) (m : Memory) (d : ℕ) (f : FunctionFrame) where
  item_below : (i : StackItem) (x y : Item) → ItemBelow x y → ItemFits notes m d f i x → ItemFits notes m d f i y
  item_below (Pushed kind v) (Item.Slot k a) (Item.Slot l b) h g = (g.0 ∙ h.0, fits_below (view_at notes m d f.saved) a b v h.1 g.1)
  item_below (LocalsOf s) Item.Locals Item.Locals h g = g
  item_below i (Item.Slot k a) Item.Locals h g = absurd h
  item_below i Item.Locals (Item.Slot l b) h g = absurd h
  item_below (Pushed kind v) Item.Locals Item.Locals h g = absurd g
  item_below (LocalsOf s) (Item.Slot k a) (Item.Slot l b) h g = absurd g

  items_below : (is : List StackItem) (xs ys : List Item) → AllZip ItemBelow xs ys → AllZip (ItemFits notes m d f) is xs
      → AllZip (ItemFits notes m d f) is ys
  items_below [] [] [] h g = tt
  items_below (i ∷ is) (x ∷ xs) (y ∷ ys) h g = (item_below i x y h.0 g.0, items_below is xs ys h.1 g.1)
  items_below is [] (y ∷ ys) h g = absurd h
  items_below is (x ∷ xs) [] h g = absurd h
  items_below [] (x ∷ xs) (y ∷ ys) h g = absurd g
  items_below (i ∷ is) [] [] h g = absurd g

  -- A frame that fits a state fits each state above it.
  pub state_fits_below : (s t : State) (regs : Registers) (c : Bool) (made : ℕ) → StateBelow s t → FitsState notes m d f s regs c made
      → FitsState notes m d f t regs c made
  state_fits_below s t regs c made h g = record {
    registers = λ r a b. fits_below (view_at notes m d f.saved) _ _ (regs r) (h.registers r a b) (g.registers r a b);
    items = items_below f.items s.items t.items h.items g.items;
    written = λ x q. g.written x (h.written x q);
    made_are = g.made_are ∙ h.made;
    fact = λ x e. absurd (none-some x (sym h.fact ∙ e));
  }
