-- The bytes of each word stand at the word's place.
use Rattle.std.proofs.Common.{◌≡◌, [], map, sym, ap, ◌∙◌, arith, rules}
use Rattle.std.specs.List.{flat_map}
use Rattle.std.proofs.lemmas.List.{ext_get_or, get_or-map, length-map}
use Rattle.std.proofs.lemmas.List.Folds.{flat_map-map}
use Rattle.chacha.specs.Rfc8439.{bytes_of}
use Rattle.chacha.proofs.serialized.Goals as goal

whole : (c : goal.After-unwrap) → c.unwrap.result ≡ c.as_flattened.result.now
whole c = search rules

pub returns : goal.returns
returns c =
    let all = c.words.result in
    let mapped : c.map-words.result ≡ map bytes_of all =
    ext_get_or [] _ _
    (omega (arith, length-map all bytes_of))
    (λ i lt. (c.map-words.ensures.items.at i 0 [] (omega arith)).2.met ∙ sym (get_or-map bytes_of all i 0 [] (omega arith))) in
    whole c
    ∙ c.as_flattened.ensures.value
    ∙ ap (flat_map (λ x. x)) mapped
    ∙ flat_map-map (λ x. x) bytes_of all
    ∙ ap (flat_map bytes_of) c.words.ensures
