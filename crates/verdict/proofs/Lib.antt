mod Space
