use Rattle.std.proofs.Common.{◌≡◌, Bool, false, take, drop, sym, ap, ◌∙◌, ◌||◌}
use Rattle.std.specs.List.{list_any}
use Rattle.std.specs.Str.{bytes_eq}
use Rattle.json_exact.specs.inner.Reader.{names_of}
use Rattle.json_exact.proofs.Apart.{any_split}
use Rattle.json_exact.proofs.names.Members.have.Goals as goal

pub returns-else-have : goal.returns-else-have
returns-else-have c =
    let s = any_split (bytes_eq c.args.name.now) 8 c.args.self.now.members in
    let few : list_any (bytes_eq c.args.name.now) (names_of (take 8 c.args.self.now.members)) ≡ false =
    rw c.as_slice-all.ensures at (sym c.have-2.ensures ∙ c.if-have.false) in
    sym (s ∙ ap (λ (b : Bool). b || list_any (bytes_eq c.args.name.now) (drop 8 (names_of c.args.self.now.members))) few
    ∙ sym (c.contains.ensures ∙ c.args.self.now.found c.args.name.now))
