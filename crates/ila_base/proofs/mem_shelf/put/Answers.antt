use Rattle.std.proofs.Common.{ap, ◌∙◌}
use Rattle.ila_base.specs.Files.{file_of, told}
use Rattle.ila_base.proofs.Filed.{told_put, told_end}
use Rattle.ila_base.proofs.mem_shelf.put.Goals as goal

pub returns-in-Some-clause-stored : goal.returns-in-Some-clause-stored
returns-in-Some-clause-stored c =
    (told_put c.args.name.now c.args.bytes.now c.args.files.now.items c.in-Some.at c.index_mut.result.now c.in_ok-bytes.bytes
    (rw c.as_slice.ensures.value at c.in-Some.ensures) c.index_mut.ensures.value c.in_ok-bytes.ensures.items).0

pub returns-in-Some-clause-others : goal.returns-in-Some-clause-others
returns-in-Some-clause-others c =
    (told_put c.args.name.now c.args.bytes.now c.args.files.now.items c.in-Some.at c.index_mut.result.now c.in_ok-bytes.bytes
    (rw c.as_slice.ensures.value at c.in-Some.ensures) c.index_mut.ensures.value c.in_ok-bytes.ensures.items).1

-- the name that was pushed is the one that was asked for, and there was none of it before
pub returns-in_ok-push-in-None-clause-stored : goal.returns-in_ok-push-in-None-clause-stored
returns-in_ok-push-in-None-clause-stored c =
    let put = told_end c.args.name.now c.args.bytes.now c.in_ok-name-in-None.name c.args.files.now.items c.in_ok-bytes.bytes
    (rw c.as_slice.ensures.value at c.in-None.ensures) (c.in_ok-name-in-None.ensures ∙ c.as_bytes.ensures.value) c.in_ok-bytes.ensures.items in
    ap (λ xs. file_of (told xs) c.args.name.now) c.in_ok-push-in-None.ensures.items ∙ put.0

pub returns-in_ok-push-in-None-clause-others : goal.returns-in_ok-push-in-None-clause-others
returns-in_ok-push-in-None-clause-others c =
    let put = told_end c.args.name.now c.args.bytes.now c.in_ok-name-in-None.name c.args.files.now.items c.in_ok-bytes.bytes
    (rw c.as_slice.ensures.value at c.in-None.ensures) (c.in_ok-name-in-None.ensures ∙ c.as_bytes.ensures.value) c.in_ok-bytes.ensures.items in
    λ other apart. ap (λ xs. file_of (told xs) other) c.in_ok-push-in-None.ensures.items ∙ put.1 other apart
