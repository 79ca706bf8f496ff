use Rattle.std.proofs.Common.{◌≡◌, ◌++◌, ◌≤◌, ℕ, List, length, slice_index, drop, take, refl, ap, ◌∙◌, subst, arith}
use Rattle.net_graph.proofs.CycleLemmas.{loop_made}
use Rattle.net_graph.proofs.cycle.loop_at.Goals as goal

pub returns : goal.returns
returns c =
    let back = c.in_ok-nodes.nodes.items in
    let found = c.place_of-place.ensures in
    let slice : c.as_slice.result.now ≡ c.in_ok-nodes.nodes.items = c.as_slice.ensures.value in
    loop_made c.args.path.now c.args.node c.place_of-place.result c.place_of_least-least.result c.in_ok-nodes.nodes.len found.0 c.in_ok-nodes.nodes.items c.rotate_left.new.self _ found.1 found.2
    c.in_ok-nodes.ensures
    (omega (arith, c.place_of_least-least.ensures.0, ap length slice))
    (λ i low. subst (λ (xs : List ℕ). slice_index xs c.place_of_least-least.result ≤ slice_index xs i) slice (c.place_of_least-least.ensures.1 i (omega (arith, low, ap length slice))))
    (c.rotate_left.ensures.after ∙ ap (λ (xs : List ℕ). drop c.place_of_least-least.result xs ++ take c.place_of_least-least.result xs) c.as_mut_slice.ensures.value)
    (omega (arith, c.in_ok-nodes.nodes.ok.0)) refl
