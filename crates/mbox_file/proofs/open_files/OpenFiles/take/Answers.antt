use Rattle.std.proofs.Common.{rules, ◌≡◌, ◌<◌, length, slice_index_or, subst, sym}
use Rattle.mbox_file.specs.OpenFiles.{IsWithoutOne}
use Rattle.mbox_file.proofs.OpenFiles.{removed}
use Rattle.mbox_file.proofs.open_files.OpenFiles.take.Goals as goal

pub returns-clause-others : goal.returns-clause-others
returns-clause-others g c =
    let its : c.remove.result.place ≡ c.args.place = search rules in
    let within : c.in_ok-at.at < length c.args.self.now.files.items = search rules in
    let is : c.remove.result ≡ slice_index_or c.args.self.now.files.items c.in_ok-at.at c.remove.result = search rules in
    subst (λ place. IsWithoutOne (record { place = place; file = c.remove.result.file }) c.args.self.now.files.items
    c.remove.new.self.items) its
    (subst (λ left. IsWithoutOne c.remove.result c.args.self.now.files.items left) (sym c.remove.ensures.items)
    (removed c.args.self.now.files.items c.in_ok-at.at c.remove.result within is))
