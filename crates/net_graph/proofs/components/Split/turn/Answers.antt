use Rattle.std.proofs.Common.{◌≡◌, ◌<◌, ◌+◌, ◌-◌, ℕ, slice_get, slice_index, Some, refl, ap, sym, ◌∙◌, length, arith}
use Rattle.std.proofs.lemmas.List.{get_or_read}
use Rattle.std.proofs.lemmas.Option.{slice_get_within, slice_get_read, get_or_from_slice_get, same_Some}
use Rattle.net_graph.proofs.ComponentLemmas.{member_low, bounds_below, split_moved}
use Rattle.net_graph.proofs.TurnLemmas.{work_moved}
use Rattle.net_graph.proofs.components.Split.turn.Goals as goal

pub source_at-requires : goal.source_at-requires
source_at-requires g c =
    let s = c.args.self.now in
    let branch = c.index-branch.result.now in
    let k : ℕ = c.len-last.result - 1 in
    let final : k + 1 ≡ length s.path.items = omega (arith, c.len-last.ensures, s.path.ok.0, c.requires.1) in
    let at : slice_get s.path.items k ≡ Some branch = slice_get_read s.path.items _ k branch refl (omega (arith, final)) c.index-branch.ensures in
    let own = c.requires.0.within k branch at in
    let node : c.index.result.now ≡ own.0 =
    get_or_read s.members.items _ _ (slice_get_within s.members.items branch.place own.0 own.1) c.index.ensures 0 ∙ get_or_from_slice_get s.members.items branch.place own.0 0 own.1 in
    omega (arith, node, c.requires.0.size, member_low c.args.graph.now g.end s.stages.items s.members.items s.bounds.items s.path.items s.least c.requires.0 branch.place own.0 own.1)

pub leave-requires : goal.leave-requires
leave-requires g c =
    let s = c.args.self.now in
    let branch = c.index-branch.result.now in
    let k : ℕ = c.len-last.result - 1 in
    let final : k + 1 ≡ length s.path.items = omega (arith, c.len-last.ensures, s.path.ok.0, c.requires.1) in
    let at : slice_get s.path.items k ≡ Some branch = slice_get_read s.path.items _ k branch refl (omega (arith, final)) c.index-branch.ensures in
    let own = c.requires.0.within k branch at in
    let node : c.index.result.now ≡ own.0 =
    get_or_read s.members.items _ _ (slice_get_within s.members.items branch.place own.0 own.1) c.index.ensures 0 ∙ get_or_from_slice_get s.members.items branch.place own.0 0 own.1 in
    (c.requires.0, record { last = k; branch = branch; node = own.0; at = at; end = final; has = refl; is = own.1; none = omega (arith, c.in-None.ensures.missing, ap (λ (u : ℕ). slice_index c.args.graph.now.starts.items (u + 1)) node) })

pub settle-requires : goal.settle-requires
settle-requires g c =
    let s = c.args.self.now in
    let branch = c.index-branch.result.now in
    let k : ℕ = c.len-last.result - 1 in
    let final : k + 1 ≡ length s.path.items = omega (arith, c.len-last.ensures, s.path.ok.0, c.requires.1) in
    let at : slice_get s.path.items k ≡ Some branch = slice_get_read s.path.items _ k branch refl (omega (arith, final)) c.index-branch.ensures in
    let own = c.requires.0.within k branch at in
    let node : c.index.result.now ≡ own.0 =
    get_or_read s.members.items _ _ (slice_get_within s.members.items branch.place own.0 own.1) c.index.ensures 0 ∙ get_or_from_slice_get s.members.items branch.place own.0 0 own.1 in
    let found = c.in-Some.ensures.found in
    let ends : branch.next < slice_index c.args.graph.now.starts.items (own.0 + 1) = omega (arith, found.0, ap (λ (u : ℕ). slice_index c.args.graph.now.starts.items (u + 1)) node) in
    (c.requires.0, (bounds_below c.args.graph.now g.end s.stages.items s.members.items s.bounds.items s.path.items s.least c.requires.0 k branch at final, (own.0, own.1, record { place = branch.next; begins = own.2; ends = ends; is = found.1 })))

pub index_mut-requires : goal.index_mut-requires
index_mut-requires g c =
    let s = c.args.self.now in
    let branch = c.index-branch.result.now in
    let k : ℕ = c.len-last.result - 1 in
    let final : k + 1 ≡ length s.path.items = omega (arith, c.len-last.ensures, s.path.ok.0, c.requires.1) in
    let at : slice_get s.path.items k ≡ Some branch = slice_get_read s.path.items _ k branch refl (omega (arith, final)) c.index-branch.ensures in
    let own = c.requires.0.within k branch at in
    let node : c.index.result.now ≡ own.0 =
    get_or_read s.members.items _ _ (slice_get_within s.members.items branch.place own.0 own.1) c.index.ensures 0 ∙ get_or_from_slice_get s.members.items branch.place own.0 0 own.1 in
    let t = c.settle.new.self in
    let there : slice_get t.path.items k ≡ Some branch = c.in_ok-settle-in-Some.ensures.path k branch at in
    omega (arith, slice_get_within t.path.items k branch there, t.path.ok.0)

pub overflow_add-index_mut : goal.overflow_add-index_mut
overflow_add-index_mut g c =
    let s = c.args.self.now in
    let branch = c.index-branch.result.now in
    let k : ℕ = c.len-last.result - 1 in
    let final : k + 1 ≡ length s.path.items = omega (arith, c.len-last.ensures, s.path.ok.0, c.requires.1) in
    let at : slice_get s.path.items k ≡ Some branch = slice_get_read s.path.items _ k branch refl (omega (arith, final)) c.index-branch.ensures in
    let own = c.requires.0.within k branch at in
    let node : c.index.result.now ≡ own.0 =
    get_or_read s.members.items _ _ (slice_get_within s.members.items branch.place own.0 own.1) c.index.ensures 0 ∙ get_or_from_slice_get s.members.items branch.place own.0 0 own.1 in
    let found = c.in-Some.ensures.found in
    let ends : branch.next < slice_index c.args.graph.now.starts.items (own.0 + 1) = omega (arith, found.0, ap (λ (u : ℕ). slice_index c.args.graph.now.starts.items (u + 1)) node) in
    let t = c.settle.new.self in
    let there : slice_get t.path.items k ≡ Some branch = c.in_ok-settle-in-Some.ensures.path k branch at in
    let same : c.index_mut.result.now ≡ branch = same_Some _ _ (sym (slice_get_read t.path.items _ k c.index_mut.result.now refl (slice_get_within t.path.items k branch there) c.index_mut.ensures.value) ∙ there) in
    let low = slice_get_within c.args.graph.now.sources.items branch.next c.in-Some.source found.1 in
    omega (arith, low, ap (λ t. t.next) same, c.args.graph.now.sources.ok.0, c.args.graph.now.sources.ok.1, c.args.graph.now.sources.small)

pub returns-in_ok-settle-in-Some-clause-split : goal.returns-in_ok-settle-in-Some-clause-split
returns-in_ok-settle-in-Some-clause-split g c =
    let s = c.args.self.now in
    let branch = c.index-branch.result.now in
    let k : ℕ = c.len-last.result - 1 in
    let final : k + 1 ≡ length s.path.items = omega (arith, c.len-last.ensures, s.path.ok.0, c.requires.1) in
    let at : slice_get s.path.items k ≡ Some branch = slice_get_read s.path.items _ k branch refl (omega (arith, final)) c.index-branch.ensures in
    let own = c.requires.0.within k branch at in
    let node : c.index.result.now ≡ own.0 =
    get_or_read s.members.items _ _ (slice_get_within s.members.items branch.place own.0 own.1) c.index.ensures 0 ∙ get_or_from_slice_get s.members.items branch.place own.0 0 own.1 in
    let found = c.in-Some.ensures.found in
    let ends : branch.next < slice_index c.args.graph.now.starts.items (own.0 + 1) = omega (arith, found.0, ap (λ (u : ℕ). slice_index c.args.graph.now.starts.items (u + 1)) node) in
    let t = c.settle.new.self in
    let there : slice_get t.path.items k ≡ Some branch = c.in_ok-settle-in-Some.ensures.path k branch at in
    let same : c.index_mut.result.now ≡ branch = same_Some _ _ (sym (slice_get_read t.path.items _ k c.index_mut.result.now refl (slice_get_within t.path.items k branch there) c.index_mut.ensures.value) ∙ there) in
    let settled = c.in_ok-settle-in-Some.ensures.settled own.0 own.1 in
    rw same (split_moved c.args.graph.now g.end t.stages.items t.members.items t.bounds.items t.path.items t.least c.in_ok-settle-in-Some.ensures.split k own.0 c.in-Some.source branch there settled.0 ends found.1 settled.1)

pub returns-in_ok-settle-in-Some-clause-less : goal.returns-in_ok-settle-in-Some-clause-less
returns-in_ok-settle-in-Some-clause-less g c =
    let s = c.args.self.now in
    let branch = c.index-branch.result.now in
    let k : ℕ = c.len-last.result - 1 in
    let final : k + 1 ≡ length s.path.items = omega (arith, c.len-last.ensures, s.path.ok.0, c.requires.1) in
    let at : slice_get s.path.items k ≡ Some branch = slice_get_read s.path.items _ k branch refl (omega (arith, final)) c.index-branch.ensures in
    let own = c.requires.0.within k branch at in
    let node : c.index.result.now ≡ own.0 =
    get_or_read s.members.items _ _ (slice_get_within s.members.items branch.place own.0 own.1) c.index.ensures 0 ∙ get_or_from_slice_get s.members.items branch.place own.0 0 own.1 in
    let found = c.in-Some.ensures.found in
    let ends : branch.next < slice_index c.args.graph.now.starts.items (own.0 + 1) = omega (arith, found.0, ap (λ (u : ℕ). slice_index c.args.graph.now.starts.items (u + 1)) node) in
    let t = c.settle.new.self in
    let there : slice_get t.path.items k ≡ Some branch = c.in_ok-settle-in-Some.ensures.path k branch at in
    let same : c.index_mut.result.now ≡ branch = same_Some _ _ (sym (slice_get_read t.path.items _ k c.index_mut.result.now refl (slice_get_within t.path.items k branch there) c.index_mut.ensures.value) ∙ there) in
    let moved = work_moved c.args.graph.now t.stages.items t.path.items k branch there (slice_get_within c.args.graph.now.sources.items branch.next c.in-Some.source found.1) in
    rw same (omega (arith, moved, c.in_ok-settle-in-Some.ensures.less))
