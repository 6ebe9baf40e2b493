pub mod RestfulLemmas
