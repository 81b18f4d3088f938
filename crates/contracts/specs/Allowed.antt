-- What a contract asks of a caller and what it allows. A contract stands here as it is read off its function: `Asked`, what a caller must show, off the
-- `requires`; `Post`, what the code must show, off the `ensures`. So what is proved of it is proved of the promise that the code is held to, and of no copy.
-- Assumes nothing: these are definitions.
use Rattle.std.specs.Prelude.{◌≡◌}

-- a contract that asks nothing: every argument is legal input. κ: the lifetimes of what is lent
abbrev pub Free : {K : Type 0} {Arguments : K → Type 0} → ((κ : K) → Arguments κ → Type 0) → Type 0
Free {K} {Arguments} Asks = (κ : K) (a : Arguments κ) → Asks κ a

-- what a contract allows, of the arguments, the answer, and the parameters at exit
module _ {K : Type 0} {Arguments Answer Exit : K → Type 0} (Allows : (κ : K) → Arguments κ → Answer κ → Exit κ → Type 0) where
  -- two answers that it allows for the same arguments are equal
  abbrev pub One : Type 0
  One = (κ : K) (a : Arguments κ) (r r' : Answer κ) (e e' : Exit κ) → Allows κ a r e → Allows κ a r' e' → r ≡ r'

  -- and so is what then stands in the output that the call was lent
  abbrev pub OneWith : {B : Type 0} → ((κ : K) → Exit κ → B) → Type 0
  OneWith output = (κ : K) (a : Arguments κ) (r r' : Answer κ) (e e' : Exit κ) → Allows κ a r e → Allows κ a r' e' → (r ≡ r') × (output κ e ≡ output κ e')

  -- two results that it allows for the same arguments are the same, told by `told` from the answer and the parameters at exit
  abbrev pub OneTold : {B : Type 0} → ((κ : K) → Answer κ → Exit κ → B) → Type 0
  OneTold told = (κ : K) (a : Arguments κ) (r r' : Answer κ) (e e' : Exit κ) → Allows κ a r e → Allows κ a r' e' → told κ r e ≡ told κ r' e'
