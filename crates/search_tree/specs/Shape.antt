-- The shape of the nodes below a link.
use Rattle.std.specs.Prelude.{◌≡◌, ℕ, zero, suc, ◌+◌, ◌≤◌, ◌==◌, List, [], ◌∷◌, ◌++◌, length, Option, Some, None, if◌then◌else◌}
use Rattle.std.specs.List.{slice_get}
use Rattle.store.specs.declared.version.Version.{Version}
use Rattle.search_tree.specs.declared.Node.{Node}

-- nothing, or a version at a place, with what hangs left and right of it
pub data Shape (K : Type 0) : Type 0 where
  leaf : Shape K
  fork : ℕ → Version K → Shape K → Shape K → Shape K

-- its versions in order
abbrev pub walk : {K : Type 0} → Shape K → List (Version K)
walk leaf = []
walk (fork place v left right) = walk left ++ v ∷ walk right

-- how many places it takes
abbrev pub size : {K : Type 0} → Shape K → ℕ
size leaf = 0
size (fork place v left right) = 1 + size left + size right

-- how often it takes a place
abbrev pub use_count : {K : Type 0} → Shape K → ℕ → ℕ
use_count leaf p = 0
use_count (fork place v left right) p = (if p == place then 1 else 0) + use_count left p + use_count right p

-- each fork has nothing on its left
abbrev pub IsChain : {K : Type 0} → Shape K → Type 0
IsChain leaf = Unit {0}
IsChain (fork place v left right) = (left ≡ leaf) × IsChain right

-- the link to it
abbrev pub link_to : {K : Type 0} → Shape K → Option ℕ
link_to leaf = None
link_to (fork place v left right) = Some place

-- the node at each of its places has that version, and links to what hangs there
abbrev pub StandsIn : {K : Type 0} → List (Node K) → Shape K → Type 0
StandsIn nodes leaf = Unit {0}
StandsIn nodes (fork place v left right) =
    (slice_get nodes place ≡ Some (record { version = v; left = link_to left; right = link_to right }))
    × StandsIn nodes left
    × StandsIn nodes right

-- a node that was read, with what is below its links
abbrev pub fork_of : {K : Type 0} → (Option ℕ → Shape K) → ℕ → Option (Node K) → Shape K
fork_of under place None = leaf
fork_of under place (Some node) = fork place node.version (under node.left) (under node.right)

-- what is below a link, at most so many steps down
abbrev pub below_within : {K : Type 0} → ℕ → List (Node K) → Option ℕ → Shape K
below_within zero nodes link = leaf
below_within (suc steps) nodes None = leaf
below_within (suc steps) nodes (Some place) = fork_of (below_within steps nodes) place (slice_get nodes place)

-- what is below a link: no way down is longer than there are nodes
unfoldable pub below : {K : Type 0} → List (Node K) → Option ℕ → Shape K
below nodes link = below_within (length nodes) nodes link

-- what is below the link makes a tree: it ends, and takes no more places than there are
pub record IsTidy {K : Type 0} (nodes : List (Node K)) (link : Option ℕ) : Type 0 where
  pub linked : link_to (below nodes link) ≡ link
  pub stands : StandsIn nodes (below nodes link)
  pub fits : size (below nodes link) ≤ length nodes
