-- The order of calls: what a call names, which calls depend on each other, and what a reordering is. Each call brings its own buffer or place.
-- Assumes nothing.
use Rattle.std.specs.Prelude.{◌≡◌, Bool, true, false, ◌||◌, List, [], ◌∷◌, map, ℕ, eqb}
use Rattle.record.specs.declared.Field.{Field as FieldRecord}
use Rattle.store.specs.Node.{Layout, Node}
use Rattle.own.specs.declared.Owner.{Owner}
use Rattle.own.specs.Own.{fields_of}
use Rattle.calls.specs.Relations.{Call, send, invalidate, assemble, consumed, read_flag, deliver, close, receive}
use Rattle.calls.specs.Relations.{Seen, seen_of, next, final, Memory, Does}

-- ---- dependence

-- what a call names
pub data Name : Type 0 where
  message : ℕ → Name
  frame : ℕ → Name
  all : Name

-- a closing handles every message and every frame
abbrev pub name_of : Call → Name
name_of (send m v) = message m
name_of (invalidate m) = message m
name_of (assemble f b) = frame f
name_of (consumed f) = frame f
name_of (read_flag m p) = message m
name_of (deliver f valid d) = frame f
name_of close = all
name_of (receive m p) = message m

-- one of the fields is of message m
unfoldable pub some_of : ℕ → List FieldRecord → Bool
some_of m [] = false
some_of m (x ∷ l) = eqb x.message m || some_of m l

-- frame f carries message m: a field of m lies in f
abbrev pub carries : Layout → ℕ → ℕ → Bool
carries l f m = some_of m (fields_of l (Owner.Frame f))

-- the same message, the same frame, or a frame and a message that it carries; and a closing with every call
abbrev pub linked : Layout → Name → Name → Bool
linked l (message i) (message j) = eqb i j
linked l (message m) (frame f) = carries l f m
linked l (frame f) (message m) = carries l f m
linked l (frame i) (frame j) = eqb i j
linked l all b = true
linked l (message m) all = true
linked l (frame f) all = true

-- two calls by what they name
abbrev pub dependent : Layout → Call → Call → Bool
dependent l c d = linked l (name_of c) (name_of d)

-- ---- lists of calls, and their reorderings

-- a call with a number of its own, by which it is known again
pub record Numbered : Type 0 where
  pub number : ℕ
  pub call : Call

-- what the caller of that call saw
pub record Result : Type 0 where
  pub number : ℕ
  pub seen : Seen

-- a is among l
pub data In {A : Type 0} (a : A) : List A → Type 0 where
  here : {l : List A} → In a (a ∷ l)
  there : {b : A} {l : List A} → In a l → In a (b ∷ l)

-- a stands before b in l
pub data Before {A : Type 0} (a b : A) : List A → Type 0 where
  first : {l : List A} → In b l → Before a b (a ∷ l)
  later : {c : A} {l : List A} → Before a b l → Before a b (c ∷ l)

-- no two calls of l have the same number
abbrev pub OwnNumbers : List Numbered → Type 0
OwnNumbers l = (a b : Numbered) → Before a b l → a.number ≡ b.number → ⊥

-- l₂ has the calls of l₁ in another order, in which only calls that do not depend on each other have changed places
pub record Reordered (layout : Layout) (l₁ l₂ : List Numbered) : Type 0 where
  pub distinct₁ : OwnNumbers l₁
  pub distinct₂ : OwnNumbers l₂
  pub all₁ : (a : Numbered) → In a l₁ → In a l₂
  pub all₂ : (a : Numbered) → In a l₂ → In a l₁
  pub swapped : (a b : Numbered) → Before a b l₁ → Before b a l₂ → dependent layout a.call b.call ≡ false

-- ---- runs

-- the node after the calls, and what each caller saw
abbrev pub end : Node → List Numbered → Node
end n l = final n (map (λ t. t.call) l)

abbrev pub results : Node → List Numbered → List Result
results n [] = []
results n (t ∷ l) = record { number = t.number; seen = seen_of n t.call } ∷ results (next n t.call) l

-- the same on memory: by the contracts of the calls, the calls on memory b can show results r and leave memory e
pub data Ran : List ℕ → List Numbered → List Result → List ℕ → Type 0 where
  done : {b : List ℕ} → Ran b [] [] b
  step : {b c e : List ℕ} {t : Numbered} {s : Seen} {l : List Numbered} {r : List Result}
      → Does b t.call s c → Memory c → Ran c l r e → Ran b (t ∷ l) (record { number = t.number; seen = s } ∷ r) e

-- two runs come to the same: the same memory, byte for byte, and each call saw in both what it saw in one
pub record SameOutcome (r₁ r₂ : List Result) (e₁ e₂ : List ℕ) : Type 0 where
  pub memory : e₁ ≡ e₂
  pub results₁ : (r : Result) → In r r₁ → In r r₂
  pub results₂ : (r : Result) → In r r₂ → In r r₁
