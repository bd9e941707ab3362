-- Equal nodes are equal bytes. A memory is determined by the node that it holds, and each round by itself says when two sound nodes are the same. Two
-- loads of one file make the same node, and every call keeps it sound and its layout as it is.
-- Assumes nothing.
use mathlib.Core.Path.{◌≡◌, refl, sym, ap, subst, ◌∙◌}
use mathlib.Core.List.{List, map}
use Prim.Native.Nat.{ℕ}
use native.Mathlib.Omega.{arith}
use Rattle.std.specs.Prelude.{Ok, Err}
use Rattle.layout.specs.Verdict.{Verdict, verdict}
use Rattle.layout.proofs.Numbers.{number_to_ten}
use Rattle.store.specs.Node.{Node, node_of}
use Rattle.node.specs.Calls.{Outcome}
use Rattle.node.specs.Load.{loaded, load_of}
use Rattle.node.specs.Sound.{Sound}
use Rattle.node.proofs.Starts.{sound_load}
use Rattle.calls.specs.Relations.{close, Seen, Memory, Does, Loads}
use Rattle.order.specs.Order.{Numbered, Result, Ran}
use Rattle.order.specs.Own.{SameLayout, SameMessages, SameRound}
use Rattle.order.proofs.EachRound.{same_node, same_layout, each_round, closed_round}
use Rattle.order.proofs.Kept.{final_layout, final_sound}
use Rattle.order.proofs.Memories.{by_node, does_means, RunMeans, ran_means}

pub equal_bytes : (a b : List ℕ) → Memory a → Memory b → Sound (node_of a) → Sound (node_of b) → SameLayout (node_of a).layout (node_of b).layout
    → SameRound (node_of a) (node_of b) → a ≡ b
equal_bytes a b here there s s' layout same = by_node a b here there (each_round s s' layout same)

-- ---- after a closing

pub closed_bytes : (b b' : List ℕ) → Sound (node_of b) → Sound (node_of b') → SameLayout (node_of b).layout (node_of b').layout
    → (s s' : Seen) (e e' : List ℕ) → Memory e → Memory e' → Does b close s e → Does b' close s' e' → SameMessages (node_of e) (node_of e') → e ≡ e'
closed_bytes b b' sound sound' layout s s' e e' memory memory' does does' same =
    let closed = (does_means b close s e does).node in
    let closed' = (does_means b' close s' e' does').node in
    let one = same_layout sound.layout sound'.layout layout in
    by_node e e' memory memory' (closed ∙ closed_round sound sound' one (rw (closed, closed') at same) ∙ sym closed')

-- ---- one file

one_start : (n n' : Node) (file : List ℕ) → (load_of n file).answer ≡ 0 → (load_of n file).node ≡ (load_of n' file).node
unfolding load_of
one_start n n' file = go (verdict file)
  where
    go : (v : Verdict) → (loaded n file v).answer ≡ 0 → (loaded n file v).node ≡ (loaded n' file v).node
    go (Ok c) done = refl
    go (Err r) done = absurd (omega (arith, number_to_ten r.refusal))

-- what a load that answers 0 leaves
loads_node : (b file c : List ℕ) → Loads b file 0 c → node_of c ≡ (load_of (node_of b) file).node
loads_node b file c loads = ap (λ (o : Outcome). o.node) loads

loads_sound : (b file c : List ℕ) → Loads b file 0 c → Sound (node_of c)
loads_sound b file c loads =
    subst Sound (sym (loads_node b file c loads)) (sound_load (node_of b) file (sym (ap (λ (o : Outcome). o.answer) loads)))

module _ (c : List ℕ) (memory : Memory c) (s : Sound (node_of c)) (l : List Numbered) (r : List Result) (e : List ℕ) (ran : Ran c l r e) where
  means : RunMeans c l r e
  means = ran_means c memory l r e ran

  run_sound : Sound (node_of e)
  run_sound = subst Sound (sym means.node) (final_sound s (map (λ t. t.call) l))

  run_layout : (node_of e).layout ≡ (node_of c).layout
  run_layout = ap (λ (n : Node). n.layout) means.node ∙ final_layout (node_of c) (map (λ t. t.call) l)

pub one_file : (file b b' c c' : List ℕ) → Memory c → Memory c' → Loads b file 0 c → Loads b' file 0 c'
    → (l l' : List Numbered) (r r' : List Result) (e e' : List ℕ) → Ran c l r e → Ran c' l' r' e' → SameRound (node_of e) (node_of e') → e ≡ e'
one_file file b b' c c' memory memory' loads loads' l l' r r' e e' ran ran' round =
    let s = loads_sound b file c loads in
    let s' = loads_sound b' file c' loads' in
    let same : node_of c ≡ node_of c' =
    loads_node b file c loads
    ∙ one_start (node_of b) (node_of b') file (sym (ap (λ (o : Outcome). o.answer) loads))
    ∙ sym (loads_node b' file c' loads') in
    let layout = run_layout c memory s l r e ran ∙ ap (λ (n : Node). n.layout) same ∙ sym (run_layout c' memory' s' l' r' e' ran') in
    by_node e e' (means c memory s l r e ran).memory (means c' memory' s' l' r' e' ran').memory
    (same_node (run_sound c memory s l r e ran) (run_sound c' memory' s' l' r' e' ran') layout round)
