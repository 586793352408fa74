use Rattle.std.proofs.Common.{◌≡◌, ℕ, List, ◌++◌, codes, string_bytes, ap, ◌∙◌, arith}
use Rattle.std.proofs.lemmas.Result.{IfOk-weaker}
use Rattle.script_pair.specs.Texts.{bytes_text}
use Rattle.script_pair.proofs.HexFacts.{encode_lower-hex_of}
use Rattle.script_pair.proofs.texts.bytes.Goals as goal

pub returns : goal.returns
returns c =
    let digits = c.in_ok-digits.ensures ∙ encode_lower-hex_of c.args.bytes.now (λ k. let fits = c.type_inv.bytes k in omega arith) in
    IfOk-weaker c.format.result _ (λ text. string_bytes text ≡ bytes_text c.args.bytes.now) (λ text is. is ∙ ap (λ (rest : List ℕ). codes "bytes " ++ rest) digits) c.format.ensures.ok
