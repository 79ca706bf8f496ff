use Rattle.std.proofs.Common.{ℕ, List, Some, ap, sym, ◌∙◌, subst}
use Rattle.std.specs.Global.{Vec}
use Rattle.ila_base.specs.Files.{file_of, told, IsSplit}
use Rattle.ila_base.proofs.Filed.{split_file}
use Rattle.ila_base.proofs.mem_shelf.MemShelf.file.Goals as goal

pub returns-in-Some : goal.returns-in-Some
returns-in-Some c =
    let split : IsSplit (told c.self.inside.files.items) c.args.name.now c.in-Some.at =
    subst (λ (xs : List (List ℕ × Vec ℕ)). IsSplit (told xs) c.args.name.now c.in-Some.at) c.as_slice.ensures.value c.in-Some.ensures in
    let found = split_file c.args.name.now c.self.inside.files.items c.in-Some.at c.index.result.now split in
    ap (λ xs. Some xs) (c.as_slice-in-Some.ensures.value ∙ ap (λ file. file.1.items) c.index.ensures) ∙ sym found.2
    ∙ ap (λ s. file_of s.files c.args.name.now) c.self.view_is
