pub mod KeywordNames
