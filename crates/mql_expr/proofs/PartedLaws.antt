-- The text of things that are parted by something.
use Rattle.std.proofs.Common.{◌≡◌, ℕ, suc, ◌+◌, ◌<◌, ◌≤◌, ◌-◌, ◌==◌, false, if◌then◌else◌, List, [], ◌∷◌, ◌++◌, length, take, drop, get_or, map, codes, refl, sym, ap, ◌∙◌, append_assoc, append-nil, arith}
use Rattle.std.specs.Prelude.{flat_map}
use Rattle.std.proofs.lemmas.Grind.{flat_map-append}
use Rattle.std.proofs.lemmas.List.{take_rest, take_all, take_more, map_push, length-take, length-map}
use Rattle.std.proofs.lemmas.Bool.Decides.{nat_tests}
use Rattle.mql_expr.specs.Canonical.{Piece, blank, mark, piece_text, text_of, parted, named, parted_names, list_pieces, braces_pieces, params_pieces, comma_before, in_parentheses, placed, arguments, binding, bindings}
use Rattle.mql_expr.specs.Tree.{tree, trees_in, templates_in}
use Rattle.mql_expr.specs.declared.expr.Expr.{Expr}
use Rattle.mql_expr.specs.declared.expr.Param.{Param}
use Rattle.mql_expr.specs.declared.expr.Template.{Template}
use Rattle.mql_expr.proofs.TreeLaws.{template_is}
use Rattle.mql_expr.specs.declared.item.Item.{Item}

-- what stands between arguments, and between templates
abbrev pub comma : List Piece
comma = mark (codes ",") ∷ blank ∷ []

suc_apart : (n : ℕ) → (suc n == 0) ≡ false
suc_apart n = grind (arith, nat_tests)

pub text_of-append : (a b : List Piece) → text_of (a ++ b) ≡ text_of a ++ text_of b
text_of-append a b = flat_map-append piece_text a b

-- each of these after something
pub behind_text : {X : Type 0} (between : List Piece) (f : X → List Piece) (xs : List X)
    → text_of (flat_map (λ y. between ++ y) (map f xs))
    ≡ flat_map (λ x. text_of between ++ text_of (f x)) xs
behind_text between f [] = refl
behind_text between f (x ∷ xs) =
    text_of-append (between ++ f x) (flat_map (λ y. between ++ y) (map f xs))
    ∙ ap (λ t. t ++ text_of (flat_map (λ y. between ++ y) (map f xs)))
    (text_of-append between (f x))
    ∙ ap (λ t. (text_of between ++ text_of (f x)) ++ t) (behind_text between f xs)

parted_front : {X : Type 0} (between : List Piece) (f : X → List Piece) (xs : List X) (x : X)
    → 1 ≤ length xs → x ≡ get_or xs 0 x
    → text_of (parted between (map f xs)) ≡ text_of (f x)
    ++ flat_map (λ y. text_of between ++ text_of (f y)) (drop 1 xs)
parted_front between f [] x some is = absurd (omega arith)
parted_front between f (y ∷ ys) x some is =
    text_of-append (f y) (flat_map (λ p. between ++ p) (map f ys))
    ∙ ap (λ t. text_of (f y) ++ t) (behind_text between f ys)
    ∙ ap (λ z. text_of (f z) ++ flat_map (λ p. text_of between ++ text_of (f p)) ys) (sym is)

-- the first, and each other after something
pub parted_text : {X : Type 0} (between : List Piece) (f : X → List Piece) (xs : List X) (x : X)
    → 1 ≤ length xs → x ≡ get_or xs 0 x
    → text_of (parted between (map f xs)) ≡ text_of (f x)
    ++ flat_map (λ y. text_of between ++ text_of (f y)) (take (length xs - 1) (drop 1 xs))
parted_text between f xs x some is = rw take_rest (parted_front between f xs x some is)

-- what is put after two pieces of text
pub put_two : (old first second a b whole : List ℕ) → first ≡ old ++ a → second ≡ first ++ b
    → whole ≡ a ++ b → second ≡ old ++ whole
put_two old first second a b whole p q w = q ∙ ap (λ t. t ++ b) p ∙ append_assoc old a b
    ∙ ap (λ t. old ++ t) (sym w)

pub names_text : (names : List (List ℕ)) (first : List ℕ) → 1 ≤ length names
    → first ≡ get_or names 0 first
    → text_of (parted_names names) ≡ first
    ++ flat_map (λ name. 44 ∷ name) (take (length names - 1) (drop 1 names))
names_text names first some is =
    simp append-nil at
    (parted_text (mark (codes ",") ∷ []) (λ name. named name ∷ []) names first some is)

wrapped_text : (begin : ℕ) (inner : List Piece) (close : ℕ)
    → text_of (mark (begin ∷ []) ∷ inner ++ mark (close ∷ []) ∷ []) ≡ begin
    ∷ (text_of inner ++ close ∷ [])
wrapped_text begin inner close = ap (λ t. begin ∷ t) (text_of-append inner (mark (close ∷ []) ∷ []))

pub braces_text : (lists : List (List Item)) (first : List Item) → 1 ≤ length lists
    → first ≡ get_or lists 0 first
    → text_of (braces_pieces lists)
    ≡ 123 ∷ ((text_of (list_pieces first)
    ++ flat_map (λ items. codes " or " ++ text_of (list_pieces items))
    (take (length lists - 1) (drop 1 lists))) ++ 125 ∷ [])
braces_text [] first some is = absurd (omega arith)
braces_text (items ∷ lists) first some is =
    wrapped_text 123
    (parted (blank ∷ named (codes "or") ∷ blank ∷ []) (map list_pieces (items ∷ lists))) 125
    ∙ ap (λ t. 123 ∷ (t ++ 125 ∷ []))
    (parted_text (blank ∷ named (codes "or") ∷ blank ∷ []) list_pieces (items ∷ lists) first some
    is)

pub params_text : (params : List Param) (first : Param) → 1 ≤ length params
    → first ≡ get_or params 0 first
    → text_of (params_pieces params)
    ≡ 40 ∷ ((first.name
    ++ flat_map (λ param. 44 ∷ param.name) (take (length params - 1) (drop 1 params))) ++ 41 ∷ [])
params_text [] first some is = absurd (omega arith)
params_text (p ∷ ps) first some is =
    wrapped_text 40 (parted (mark (codes ",") ∷ []) (map (λ q. named q.name ∷ []) (p ∷ ps))) 41
    ∙ ap (λ t. 40 ∷ (t ++ 41 ∷ []))
    (simp append-nil at
    (parted_text (mark (codes ",") ∷ []) (λ q. named q.name ∷ []) (p ∷ ps) first some is))

-- four pieces of text, one after the other
pub put_four : (old one two three four a b c d whole : List ℕ) → one ≡ old ++ a → two ≡ one ++ b
    → three ≡ two ++ c → four ≡ three ++ d
    → whole ≡ a ++ ((b ++ c) ++ d) → four ≡ old ++ whole
put_four old one two three four a b c d whole p q r s w =
    let same : (((old ++ a) ++ b) ++ c) ++ d ≡ old ++ (a ++ ((b ++ c) ++ d)) = simp append_assoc in
    s ∙ ap (λ t. t ++ d) (r ∙ ap (λ t. t ++ c) (q ∙ ap (λ t. t ++ b) p)) ∙ same
    ∙ ap (λ t. old ++ t) (sym w)

-- one more, which stands after a comma where it isn't the first
pub parted_push : (between : List Piece) (xs : List (List Piece)) (y : List Piece)
    → text_of (parted between (xs ++ y ∷ [])) ≡ text_of (parted between xs)
    ++ ((if length xs == 0 then [] else text_of between) ++ text_of y)
parted_push between [] y = text_of-append y [] ∙ append-nil (text_of y)
parted_push between (x ∷ xs) y =
    let more = flat_map (λ z. between ++ z) xs in
    ap (λ t. text_of (x ++ t)) (flat_map-append (λ z. between ++ z) xs (y ∷ []))
    ∙ ap text_of (sym (append_assoc x more ((between ++ y) ++ [])))
    ∙ text_of-append (x ++ more) ((between ++ y) ++ [])
    ∙ ap (λ t. text_of (x ++ more) ++ text_of t) (append-nil (between ++ y))
    ∙ ap (λ t. text_of (x ++ more) ++ t) (text_of-append between y)
    ∙ ap (λ b. text_of (x ++ more) ++ ((if b then [] else text_of between) ++ text_of y))
    (sym (suc_apart (length xs)))

pub parted_more : {X : Type 0} (f : X → List Piece) (xs : List X) (i : ℕ) (x : X) → i < length xs
    → x ≡ get_or xs i x
    → text_of (parted comma (map f (take (i + 1) xs))) ≡ text_of (parted comma (map f (take i xs)))
    ++ (comma_before i ++ text_of (f x))
parted_more f xs i x low is =
    let len : length (map f (take i xs)) ≡ i =
    omega (arith, length-map (take i xs) f, length-take i xs) in
    ap (λ ys. text_of (parted comma (map f ys)))
    (take_more xs i x low ∙ ap (λ z. take i xs ++ z ∷ []) (sym is))
    ∙ ap (λ ys. text_of (parted comma ys)) (map_push f (take i xs) x)
    ∙ parted_push comma (map f (take i xs)) (f x)
    ∙ ap (λ k. text_of (parted comma (map f (take i xs))) ++ (comma_before k ++ text_of (f x))) len

-- the text of arguments or templates so far grows by one
pub text_more :
    {X : Type 0} (f : X → List Piece) (old one two three : List ℕ) (xs : List X) (i : ℕ) (x : X)
    → i < length xs → x ≡ get_or xs i x
    → one ≡ old ++ 40 ∷ text_of (parted comma (map f (take i xs))) → two ≡ one ++ comma_before i
    → three ≡ two ++ text_of (f x)
    → three ≡ old ++ 40 ∷ text_of (parted comma (map f (take (i + 1) xs)))
text_more f old one two three xs i x low is so_far before put =
    let done = text_of (parted comma (map f (take i xs))) in
    let same : ((old ++ 40 ∷ done) ++ comma_before i) ++ text_of (f x) ≡ old
    ++ 40 ∷ (done ++ (comma_before i ++ text_of (f x))) = simp append_assoc in
    put ∙ ap (λ t. t ++ text_of (f x)) (before ∙ ap (λ t. t ++ comma_before i) so_far) ∙ same
    ∙ ap (λ t. old ++ 40 ∷ t) (sym (parted_more f xs i x low is))

pub arguments_of : (args : List Expr)
    → arguments (trees_in args) ≡ map (λ e. placed 1 (tree e)) args
arguments_of [] = refl
arguments_of (e ∷ es) = ap (λ ps. placed 1 (tree e) ∷ ps) (arguments_of es)

abbrev pub binding_of : Template → List Piece
binding_of t = binding t.name t.params (placed 1 (tree t.body))

pub bindings_of : (ts : List Template) → bindings (templates_in ts) ≡ map binding_of ts
bindings_of [] = refl
bindings_of (t ∷ ts) =
    ap (λ u. binding u.name u.params (placed 1 u.body) ∷ bindings (templates_in ts)) (template_is t)
    ∙ ap (λ ps. binding_of t ∷ ps) (bindings_of ts)

-- all of them, and the parenthesis after them
pub inside_text :
    {X : Type 0} (f : X → List Piece) (old one two : List ℕ) (xs : List X) (i : ℕ)
    (parts : List (List Piece)) → length xs ≤ i → parts ≡ map f xs
    → one ≡ old ++ 40 ∷ text_of (parted comma (map f (take i xs))) → two ≡ one ++ 41 ∷ []
    → two ≡ old ++ text_of (in_parentheses parts)
inside_text f old one two xs i parts low same so_far put =
    let whole : one ≡ old ++ 40 ∷ text_of (parted comma parts) =
    so_far ∙ ap (λ ys. old ++ 40 ∷ text_of (parted comma (map f ys))) (take_all i xs low)
    ∙ ap (λ ps. old ++ 40 ∷ text_of (parted comma ps)) (sym same) in
    put ∙ ap (λ t. t ++ 41 ∷ []) whole
    ∙ append_assoc old (40 ∷ text_of (parted comma parts)) (41 ∷ [])
    ∙ ap (λ t. old ++ t) (sym (wrapped_text 40 (parted comma parts) 41))
