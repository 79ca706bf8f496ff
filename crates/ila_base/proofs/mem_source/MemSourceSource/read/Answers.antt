use Rattle.std.proofs.Common.{◌≡◌, ◌≤◌, ◌-◌, length, min, ℕ, take, drop, List, arith, ap, sym, ◌∙◌, length-append, length-drop}
use Rattle.ila_base.proofs.Taken.{rest_whole, read_gives, read_ends}
use Rattle.ila_base.proofs.mem_source.MemSourceSource.read.Goals as goal

-- the rest of the bytes, as the code took it
rest_is : (c : goal.After-self-1) → take (length c.deref.result.now - c.self.inside.at) (drop c.self.inside.at c.deref.result.now) ≡ drop c.self.inside.at c.self.inside.bytes.items
rest_is c = rest_whole c.deref.result.now c.self.inside.at ∙ ap (λ xs. drop c.self.inside.at xs) c.deref.ensures.value

pub returns-clause-bytes : goal.returns-clause-bytes
returns-clause-bytes c =
    let all : List ℕ = c.self.inside.bytes.items in
    let at : ℕ = c.self.inside.at in
    let n : ℕ = c.min-n.result in
    let amount : n ≡ min c.self.inside.piece (min (length c.args.into.now) (length (drop at all))) =
    c.min-n.ensures ∙ ap (λ m. min c.self.inside.piece m) (c.min.ensures ∙ ap (λ xs. min (length c.args.into.now) (length xs)) (rest_is c)) in
    let fits : n ≤ length (drop at all) = omega arith in
    let copied : c.copy_from_slice.new.self ≡ take n (drop at all) = c.copy_from_slice.ensures.after ∙ ap (λ xs. take n xs) (rest_is c) in (
      sym (ap (λ s. s.left) c.self.view_is) ∙ read_gives all c.args.into.now c.copy_from_slice.new.self at n fits copied,
      λ none room. read_ends all c.args.into.now at n c.self.inside.piece amount c.self.invariant.0 none
          (omega (arith, room, none, c.copy_from_slice.ensures.len, length-append c.copy_from_slice.new.self (drop n c.args.into.now), length-drop n c.args.into.now, ap length copied)),
    )
